-- Steps that change the snapshot entries alone keep the first invariant.
use Rattle.std.proofs.Common.{◌≡◌, inr, ℕ, ◌<◌, Bool, true, not, ◌&&◌, List, [], length, refl, subst, arith, sym}
use Rattle.std.specs.Prelude.{nat_lt}
use Rattle.std.proofs.lemmas.Bool.Decides.{nat_tests}
use Rattle.entry_log.specs.Durable.{put_in, invalidated}
use Rattle.entry_log.specs.Durable.{SnapshotEntry}
use Rattle.world.specs.World.{World, member, put, names, is_running, is_stopped, becomes, step, Puts, Invalidates}
use Rattle.consensus_core.specs.Member.{Member, Cut, Whole, Before, After, stopped, snapped, puts}
use Rattle.world.proofs.Kept.{Inv, MemberOk, GoesOn, Grows, keeps, grows-put}
use Rattle.world.proofs.Effects.{if-cases, none_in, owes-stop, Known-stopped}
use Rattle.world.proofs.Rows.{and_true}

-- the member with other snapshot entries
abbrev pub with_snaps : Member → List SnapshotEntry → Member
with_snaps x all = record { up = x.up; values = x.values; durable = snapped all x.durable }

-- one put, which a stop may cut, with the entries that the disk then has
abbrev pub putting : World → ℕ → Member → List SnapshotEntry → Cut → World
putting w m x all Whole = put w m (with_snaps x all) [] [] []
putting w m x all Before = put w m (stopped x.durable) [] [] []
putting w m x all After = put w m (stopped (snapped all x.durable)) [] [] []

pub putting-same : (w : World) (m : ℕ) (s : SnapshotEntry) (cut : Cut) → becomes w m (puts s cut (member w m)) ≡ putting w m (member w m) (put_in s (member w m).durable.snapshots) cut
putting-same w m s Whole = refl
putting-same w m s Before = refl
putting-same w m s After = refl

pub snapped-keeps : (n : ℕ) (w : World) (m : ℕ) (all : List SnapshotEntry) → Inv n w → m < length w.members → Inv n (put w m (with_snaps (member w m) all) [] [] [])
snapped-keeps n w m all i l =
    let x = member w m in
    let y = with_snaps x all in
    let on : GoesOn x y = inr (refl, (refl, λ h. h)) in
    let w' = put w m y [] [] [] in
    let g : Grows w w' = grows-put w m y [] [] [] l on in
    let old : MemberOk w n m x = i.members m (subst (λ z. m < z) i.count l) in
    keeps n w m y [] [] [] i l (record {
      goes = on;
      mine = record {
        known = λ up. let k = old.known up in record { id = k.id; members = k.members; candidate = k.candidate; voted = k.voted };
        term = old.term;
        voted = λ k e. let r = old.voted k e in (r.0, g.raised _ _ _ _ r.1);
        ballot = λ b. let z = old.ballot b in record { own = g.raised _ _ _ _ z.own; votes = λ k yes. let r = z.votes k yes in (r.0, g.raised _ _ _ _ r.1) };
      };
      raises = λ r h. absurd (none_in r h);
      few_raises = λ r r' h h'. absurd (none_in r h);
      sent = λ s h. absurd (none_in s h);
      reigns = λ r h. absurd (none_in r h);
      new_reigns = λ r r' h h'. absurd (none_in r h);
      few_reigns = λ r r' h h'. absurd (none_in r h);
    })

pub snapped-stop : (n : ℕ) (w : World) (m : ℕ) (all : List SnapshotEntry) → Inv n w → m < length w.members → Inv n (put w m (stopped (snapped all (member w m).durable)) [] [] [])
snapped-stop n w m all i l =
    let x = member w m in
    let y = stopped (snapped all x.durable) in
    let on : GoesOn x y = inr (refl, (refl, λ h. refl)) in
    let w' = put w m y [] [] [] in
    let g : Grows w w' = grows-put w m y [] [] [] l on in
    let old : MemberOk w n m x = i.members m (subst (λ z. m < z) i.count l) in
    keeps n w m y [] [] [] i l (record {
      goes = on;
      mine = Known-stopped w' n m (snapped all x.durable) (λ k e. let r = old.voted k e in (r.0, g.raised _ _ _ _ r.1));
      raises = λ r h. absurd (none_in r h);
      few_raises = λ r r' h h'. absurd (none_in r h);
      sent = λ s h. absurd (none_in s h);
      reigns = λ r h. absurd (none_in r h);
      new_reigns = λ r r' h h'. absurd (none_in r h);
      few_reigns = λ r r' h h'. absurd (none_in r h);
    })

pub putting-keeps : (n : ℕ) (w : World) (m : ℕ) (all : List SnapshotEntry) (cut : Cut) → Inv n w → m < length w.members → Inv n (putting w m (member w m) all cut)
putting-keeps n w m all Whole i l = snapped-keeps n w m all i l
putting-keeps n w m all Before i l = owes-stop n w m i l
putting-keeps n w m all After i l = snapped-stop n w m all i l

pub running-below : (w : World) (m : ℕ) (b : Bool) → (is_running w m && b) ≡ true → (m < length w.members) × ((member w m).up ≡ true) × (b ≡ true)
running-below w m b h =
    let p = and_true (is_running w m) b h in
    let q = and_true (nat_lt m (length w.members)) (member w m).up p.0 in
    (grind (arith, nat_tests, q.0), q.1, p.1)

pub stopped-below : (w : World) (m : ℕ) → (nat_lt m (length w.members) && not (member w m).up) ≡ true → m < length w.members
stopped-below w m h = let p = and_true (nat_lt m (length w.members)) (not (member w m).up) h in grind (arith, nat_tests, p.0)

pub puts-keeps : (n : ℕ) (w : World) (m k : ℕ) (s : SnapshotEntry) (cut : Cut) → Inv n w → Inv n (step w (Puts m k s cut))
puts-keeps n w m k s cut i =
    if-cases (Inv n) (is_running w m && names k s (member w m)) _ _
    (λ h. subst (Inv n) (sym (putting-same w m s cut)) (putting-keeps n w m (put_in s (member w m).durable.snapshots) cut i (running-below w m (names k s (member w m)) h).0))
    (λ h. i)

pub invalidates-keeps : (n : ℕ) (w : World) (m services : ℕ) → Inv n w → Inv n (step w (Invalidates m services))
invalidates-keeps n w m services i =
    if-cases (Inv n) (is_stopped w m) _ _
    (λ h. snapped-stop n w m (invalidated services (member w m).durable.snapshots) i (stopped-below w m h))
    (λ h. i)
