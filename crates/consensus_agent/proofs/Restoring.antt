-- Services and a module that go on from the latest valid set of snapshots.
use Rattle.std.specs.Prelude.{IfOk, Ok, Err, Result}
use Rattle.std.proofs.Common.{◌≡◌, ℕ, suc, ◌+◌, ◌<◌, ◌^◌, ℤ, pos, negsuc, All, List, [], ◌∷◌, ◌++◌, length, refl, sym, ◌∙◌, ap, subst, arith}
use Rattle.cl_base.specs.Disk.{FileState}
use Rattle.cl_base.specs.declared.fault.MemberFault.{MemberFault}
use Rattle.recording_log.specs.Sets.{HasNoSet}
use Rattle.snapshot_store.specs.Snapshots.{spelled, ArePieces}
use Rattle.member_disk.specs.Kept.{Kept}
use Rattle.member_disk.specs.Latest.{IsLatestEntry}
use Rattle.member_disk.specs.declared.durable.SetEntry.{SetEntry}
use Rattle.module_state.specs.Module.{Module}
use Rattle.module_state.specs.Restored.{restored}
use Rattle.service_api.specs.declared.shipped.Kind.{Kind}
use Rattle.service_api.specs.declared.shipped.Shipped.{Shipped}
use Rattle.service_api.specs.Shipped.{first_of, restored_of}
use Rattle.service_container.specs.Held.{Held as ContainerHeld, begun}
use Rattle.snapshot_pieces.specs.declared.origin.Origin.{Origin}
use Rattle.snapshot_pieces.specs.Pieces.{between, service_pieces_of}
use Rattle.snapshot_pieces.specs.Restored.{IsServiceOf, IsModuleOf}
use Rattle.consensus_agent.specs.Restored.{HasPieces, GoesOn, GoOn, IsRestored, IsFromSet}
use Rattle.consensus_agent.specs.Starts.{IsFirst, first_containers}
use Rattle.consensus_agent.specs.declared.mounting.Start.{Start}
use Rattle.consensus_agent.proofs.Pieces.{origin_of, service_read, module_read}

-- ---- one that was restored

pub one_goes_on : (kept : Kept) (files : ℕ → FileState) (base : ℕ) (kind : Kind) (number : ℕ) (s : SetEntry) (ps : List (List ℕ)) (o : Origin) (result : Result ContainerHeld MemberFault)
    → IsLatestEntry kept.services kept.entries (pos number) s → ArePieces s.pieces → spelled s.pieces ≡ (files (258 + s.recording)).reads → ps ≡ s.pieces → o ≡ origin_of (pos number) s
    → IfOk result (λ c. c ≡ begun number base c.state) → IfOk result (λ c. IsServiceOf kind o ps c.state)
    → ((records : List ℕ) (t : Shipped) → length records < 2 ^ 31 → ps ≡ service_pieces_of o records → restored_of kind records ≡ Ok t → IfOk result (λ c. c.state ≡ t))
    → IfOk result (GoesOn kept files base kind number)
one_goes_on kept files base kind number s ps o (Err e) latest strict reads are at begins is same = tt
one_goes_on kept files base kind number s ps o (Ok c) latest strict reads are at begins is same = record {
  begins = begins;
  state = λ q records t of short has restores.
      let was : s.pieces ≡ service_pieces_of (origin_of (pos number) s) is.0 = sym are ∙ is.1 ∙ ap (λ (z : Origin). service_pieces_of z is.0) at in
      let now = service_read kept files (pos number) s q records is.0 latest strict reads was of has in
      same records t short (are ∙ now ∙ ap (λ (z : Origin). service_pieces_of z records) (sym at)) restores;
}

pub module_goes_on : (kept : Kept) (files : ℕ → FileState) (services : ℕ) (s : SetEntry) (ps : List (List ℕ)) (o : Origin) (result : Result Module MemberFault)
    → IsLatestEntry kept.services kept.entries (negsuc 0) s → ArePieces s.pieces → spelled s.pieces ≡ (files (258 + s.recording)).reads → ps ≡ s.pieces → o ≡ origin_of (negsuc 0) s
    → IfOk result (λ m. IsModuleOf services o ps m)
    → ((records : List (List ℕ)) (m : Module) → ps ≡ between o records → restored services records ≡ Ok m → IfOk result (λ n. n ≡ m))
    → IfOk result (IsRestored kept files services)
module_goes_on kept files services s ps o (Err e) latest strict reads are at is same = tt
module_goes_on kept files services s ps o (Ok m) latest strict reads are at is same = λ q records n of all has restores.
    let was : s.pieces ≡ between (origin_of (negsuc 0) s) is.0 = sym are ∙ is.1 ∙ ap (λ (z : Origin). between z is.0) at in
    let now = module_read kept files (negsuc 0) s q records is.0 latest strict reads was of all has in
    same records n (are ∙ now ∙ ap (λ (z : Origin). between z records) (sym at)) restores

-- ---- where the disk was only looked at

has_there : (k l : Kept) (f h : ℕ → FileState) (o : Origin) (ps : List (List ℕ)) → l ≡ k → ((g : ℕ) → h g ≡ f g) → HasPieces l h o ps → HasPieces k f o ps
has_there k l f h o ps is same has = subst (λ (x : Kept). HasPieces x f o ps) is (record {
  entry = has.entry;
  recording = has.recording;
  latest = has.latest;
  named = has.named;
  term = has.term;
  position = has.position;
  reads = ap (λ (s : FileState). s.reads) (sym (same (258 + has.recording))) ∙ has.reads;
})

goes_there : (k l : Kept) (f h : ℕ → FileState) (base : ℕ) (kind : Kind) (number : ℕ) (c : ContainerHeld) → l ≡ k → ((g : ℕ) → h g ≡ f g) → GoesOn k f base kind number c → GoesOn l h base kind number c
goes_there k l f h base kind number c is same on = record { begins = on.begins; state = λ o records s of short has. on.state o records s of short (has_there k l f h o (service_pieces_of o records) is same has) }

-- and as it was before
pub goes_back : (k l : Kept) (f h : ℕ → FileState) (base : ℕ) (kind : Kind) (number : ℕ) (c : ContainerHeld) → l ≡ k → ((g : ℕ) → h g ≡ f g) → GoesOn l h base kind number c → GoesOn k f base kind number c
goes_back k l f h base kind number c is same on = goes_there l k h f base kind number c (sym is) (λ g. sym (same g)) on

pub go_there : (k l : Kept) (f h : ℕ → FileState) (base : ℕ) (kinds : List Kind) (number : ℕ) (cs : List ContainerHeld) → l ≡ k → ((g : ℕ) → h g ≡ f g) → GoOn k f base kinds number cs → GoOn l h base kinds number cs
go_there k l f h base [] number [] is same on = tt
go_there k l f h base (kind ∷ kinds) number (c ∷ cs) is same on = (goes_there k l f h base kind number c is same on.0, go_there k l f h base kinds (suc number) cs is same on.1)
go_there k l f h base [] number (c ∷ cs) is same on = absurd on
go_there k l f h base (kind ∷ kinds) number [] is same on = absurd on

pub module_there : (k l : Kept) (f h : ℕ → FileState) (services : ℕ) (m : Module) → l ≡ k → ((g : ℕ) → h g ≡ f g) → IsRestored k f services m → IsRestored l h services m
module_there k l f h services m is same on = λ o records n of all has. on o records n of all (has_there k l f h o (between o records) is same has)

pub module_back : (k l : Kept) (f h : ℕ → FileState) (services : ℕ) (m : Module) → l ≡ k → ((g : ℕ) → h g ≡ f g) → IsRestored l h services m → IsRestored k f services m
module_back k l f h services m is same on = module_there l k h f services m (sym is) (λ g. sym (same g)) on

-- ---- a service more

pub go_more : (k : Kept) (f : ℕ → FileState) (base : ℕ) (kinds : List Kind) (kind : Kind) (number at : ℕ) (cs : List ContainerHeld) (c : ContainerHeld) → at ≡ number + length cs → GoOn k f base kinds number cs → GoesOn k f base kind at c → GoOn k f base (kinds ++ kind ∷ []) number (cs ++ c ∷ [])
go_more k f base [] kind number at [] c is on one = (let here : at ≡ number = omega (arith, is) in subst (λ n. GoesOn k f base kind n c) here one, tt)
go_more k f base (x ∷ kinds) kind number at (d ∷ cs) c is on one = (on.0, go_more k f base kinds kind (suc number) at cs c (omega (arith, is)) on.1 one)
go_more k f base [] kind number at (d ∷ cs) c is on one = absurd on
go_more k f base (x ∷ kinds) kind number at [] c is on one = absurd on

-- ---- without a valid set

none_has : (k : Kept) (f : ℕ → FileState) (o : Origin) (ps : List (List ℕ)) → HasNoSet k.services k.entries → HasPieces k f o ps → ⊥
none_has k f o ps none has = none has.entry.term has.entry.position has.latest.whole

first_go : (k : Kept) (f : ℕ → FileState) (kinds : List Kind) (number : ℕ) → HasNoSet k.services k.entries → GoOn k f 0 kinds number (first_containers number kinds)
first_go k f [] number none = tt
first_go k f (kind ∷ kinds) number none = (record { begins = refl; state = λ o records s of short has. absurd (none_has k f o (service_pieces_of o records) none has) }, first_go k f kinds (suc number) none)

pub first_from : (k : Kept) (f : ℕ → FileState) (kinds : List Kind) (s : Start) → HasNoSet k.services k.entries → IsFirst kinds s → IsFromSet k f kinds s
first_from k f kinds s none is = record {
  services = subst (λ cs. GoOn k f s.base kinds 0 cs) (sym is.services) (subst (λ b. GoOn k f b kinds 0 (first_containers 0 kinds)) (sym is.base) (first_go k f kinds 0 none));
  state = λ o records n of all has. absurd (none_has k f o (between o records) none has);
}
