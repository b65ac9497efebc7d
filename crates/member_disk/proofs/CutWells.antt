-- Changes in parts, and strikes, are cut well.
use Rattle.std.specs.Prelude.{◌&&◌, ◌==◌, slice_get, slice_set, if◌then◌else◌}
use Rattle.std.specs.List.{filter}
use Rattle.std.proofs.Common.{◌≡◌, ◌⊎◌, inl, inr, ⊎_elim, ℕ, zero, suc, ◌+◌, Bool, true, false, Some, None, Option, ℤ, IsTrue, List, [], ◌∷◌, ◌++◌, length, take, Result, refl, sym, ◌∙◌, ap, subst}
use Rattle.std.proofs.lemmas.Bool.{and_parts, eqb-true, cond-true, cond-false}
use Rattle.std.proofs.lemmas.List.{append-nil}
use Rattle.std.proofs.lemmas.List.Elements.{filter-append}
use Rattle.cl_base.specs.Disk.{DiskState}
use Rattle.cl_base.specs.Torn.{weaker}
use Rattle.cl_base.specs.Runs.{EachImage}
use Rattle.cl_base.specs.declared.entry.Entry.{Entry}
use Rattle.cl_base.specs.declared.fault.MemberFault.{MemberFault}
use Rattle.entry_log.specs.Log.{Log}
use Rattle.recording_log.specs.declared.entry.RecEntry.{RecEntry}
use Rattle.recording_log.specs.declared.entry.TermAt.{TermAt}
use Rattle.recording_log.specs.Valid.{is_valid, is_term, is_snapshot, valid_of, term_of, terms_of}
use Rattle.recording_log.specs.Sets.{IsLatest, struck, struck_kind}
use Rattle.node_state.specs.Node.{Tells}
use Rattle.log_segment.specs.Segment.{LogIs}
use Rattle.log_segment.specs.declared.kept.NewTerm.{NewTerm}
use Rattle.log_segment.specs.Held.{new_term_of, put_term, new_terms}
use Rattle.member_disk.specs.Kept.{Kept, Stands, StandsAmong, EachStands}
use Rattle.member_disk.specs.Changes.{NoneSnapshot, GrewByTerms, HasMoreTerms, HasTerm, HaveTerms, term_at}
use Rattle.member_disk.specs.Parts.{Part, stages, IsMade, made, cut_part, cut_parts}
use Rattle.member_disk.specs.Struck.{CountsAs, CountsAsOne, IsStruck, with_struck}
use Rattle.member_disk.specs.CutWell.{snapshots_of, IsDurable, IsDurableOne, Spares, IsCutWell}
use Rattle.member_disk.proofs.Terms.{terms_both, get_first, terms_stay}

pub durable_same : (kept : Kept) (c : ℕ → List ℕ) → HaveTerms kept.entries (new_terms 0 kept.log) → Stands kept c → IsDurable kept c
durable_same kept c terms is = record { node = is.node; entries = kept.entries; holds = is.entries; snapshots = refl; terms = terms; log = is.log }

none_of : (added : List RecEntry) → NoneSnapshot added → snapshots_of added ≡ []
none_of [] none = refl
none_of (e ∷ es) none = go (is_snapshot e) refl (none_of es none.1)
  where
    go : (b : Bool) → is_snapshot e ≡ b → filter is_snapshot es ≡ [] → filter is_snapshot (e ∷ es) ≡ []
    go true is rest = absurd (none.0 is)
    go false is rest = cond-false (is_snapshot e) (e ∷ filter is_snapshot es) (filter is_snapshot es) is ∙ rest

-- TERM entries that are added aren't among them
pub snapshots_stay : (old new : List RecEntry) → GrewByTerms old new → snapshots_of new ≡ snapshots_of old
snapshots_stay old new grew =
    ap (filter is_snapshot) grew.is ∙ filter-append is_snapshot old grew.added ∙ ap (λ (l : List RecEntry). snapshots_of old ++ l) (none_of grew.added grew.none) ∙ append-nil (snapshots_of old)

-- a state with more TERM entries is durable as the one without
pub durable_more : (kept more : Kept) (c : ℕ → List ℕ) → HaveTerms kept.entries (new_terms 0 kept.log) → HasMoreTerms kept more → Stands more c → IsDurable kept c
durable_more kept more c terms has is = record {
  node = subst (λ n. Tells n (c 0)) has.node is.node;
  entries = more.entries;
  holds = is.entries;
  snapshots = snapshots_stay kept.entries more.entries has.entries;
  terms = terms_stay kept.entries more.entries (new_terms 0 kept.log) has.entries terms;
  log = subst (λ (l : Log). LogIs l c) has.log is.log;
}

-- the terms of some of the entries are among those of all
pub put_first : (entries : List RecEntry) (o : Option NewTerm) (ts us : List NewTerm) → HaveTerms entries (put_term o ts) → (HaveTerms entries ts → HaveTerms entries us) → HaveTerms entries (put_term o us)
put_first entries None ts us have so = so have
put_first entries (Some t) ts us have so = (have.0, so have.1)

pub terms_take : (entries : List RecEntry) (i n : ℕ) (log : Log) → HaveTerms entries (new_terms i log) → HaveTerms entries (new_terms i (take n log))
terms_take entries i zero log have = tt
terms_take entries i (suc n) [] have = tt
terms_take entries i (suc n) (e ∷ es) have = put_first entries (new_term_of i e.bytes) (new_terms (i + 1) es) (new_terms (i + 1) (take n es)) have (terms_take entries (i + 1) n es)

-- entries behind others leave the terms of those there
pub terms_front : (old more : List RecEntry) (ts : List NewTerm) → HaveTerms old ts → HaveTerms (old ++ more) ts
terms_front old more [] have = tt
terms_front old more (t ∷ ts) have = (
  (have.0.0, ap (λ (l : List TermAt). slice_get l have.0.0) (terms_both old more) ∙ get_first (terms_of old) (terms_of more) have.0.0 (term_at t) have.0.1),
  terms_front old more ts have.1,
)

-- the terms, and the snapshots, are those of the entries that count
same_terms : (entries : List RecEntry) → terms_of entries ≡ terms_of (valid_of entries)
same_terms [] = refl
same_terms (e ∷ es) = go (is_valid e) refl (same_terms es)
  where
    go : (b : Bool) → is_valid e ≡ b → terms_of es ≡ terms_of (valid_of es) → terms_of (e ∷ es) ≡ terms_of (valid_of (e ∷ es))
    go true is rest = ap (λ (l : List TermAt). if is_term e then term_of e ∷ l else l) rest ∙ ap terms_of (sym (cond-true (is_valid e) (e ∷ valid_of es) (valid_of es) is))
    go false is rest =
        let out : is_term e ≡ false = ap (λ b. b && (e.kind == 0)) is in
        cond-false (is_term e) (term_of e ∷ terms_of es) (terms_of es) out ∙ rest ∙ ap terms_of (sym (cond-false (is_valid e) (e ∷ valid_of es) (valid_of es) is))

same_snapshots : (entries : List RecEntry) → snapshots_of entries ≡ snapshots_of (valid_of entries)
same_snapshots [] = refl
same_snapshots (e ∷ es) = go (is_valid e) refl (same_snapshots es)
  where
    go : (b : Bool) → is_valid e ≡ b → snapshots_of es ≡ snapshots_of (valid_of es) → snapshots_of (e ∷ es) ≡ snapshots_of (valid_of (e ∷ es))
    go true is rest = ap (λ (l : List RecEntry). if is_snapshot e then e ∷ l else l) rest ∙ ap snapshots_of (sym (cond-true (is_valid e) (e ∷ valid_of es) (valid_of es) is))
    go false is rest =
        let out : is_snapshot e ≡ false = ap (λ b. b && (e.kind == 1)) is in
        cond-false (is_snapshot e) (e ∷ snapshots_of es) (snapshots_of es) out ∙ rest ∙ ap snapshots_of (sym (cond-false (is_valid e) (e ∷ valid_of es) (valid_of es) is))

terms_as : (old new : List RecEntry) (ts : List NewTerm) → terms_of new ≡ terms_of old → HaveTerms old ts → HaveTerms new ts
terms_as old new [] same have = tt
terms_as old new (t ∷ ts) same have = ((have.0.0, ap (λ (l : List TermAt). slice_get l have.0.0) same ∙ have.0.1), terms_as old new ts same have.1)

pub durable_counts : (kept : Kept) (c : ℕ → List ℕ) → HaveTerms kept.entries (new_terms 0 kept.log) → CountsAs kept c → IsDurable kept c
durable_counts kept c terms is =
    let there = is.entries.entries in
    record {
      node = is.node;
      entries = there;
      holds = is.entries.holds;
      snapshots = same_snapshots there ∙ ap snapshots_of is.entries.counts ∙ sym (same_snapshots kept.entries);
      terms = terms_as kept.entries there (new_terms 0 kept.log) (same_terms there ∙ ap terms_of is.entries.counts ∙ sym (same_terms kept.entries)) terms;
      log = is.log;
    }

-- a strike of a SNAPSHOT entry leaves the terms
terms_struck : (entries : List RecEntry) (i : ℕ) (e s : RecEntry) → slice_get entries i ≡ Some e → is_term e ≡ false → is_term s ≡ false → terms_of (slice_set entries i s) ≡ terms_of entries
terms_struck [] i e s at out none = absurd (cc)
terms_struck (x ∷ xs) zero e s at out none =
    let same : x ≡ e = some_same x e at in
    cond-false (is_term s) (term_of s ∷ terms_of xs) (terms_of xs) none ∙ sym (cond-false (is_term x) (term_of x ∷ terms_of xs) (terms_of xs) (ap is_term same ∙ out))
  where
    some_same : (a b : RecEntry) → Some a ≡ Some b → a ≡ b
    some_same a b is = cc
terms_struck (x ∷ xs) (suc i) e s at out none = ap (λ (l : List TermAt). if is_term x then term_of x ∷ l else l) (terms_struck xs i e s at out none)

pub strike_terms : (services : ℕ) (entries : List RecEntry) (i : ℕ) (e : RecEntry) (ts : List NewTerm) → IsLatest services entries i e → HaveTerms entries ts → HaveTerms (struck i e entries) ts
strike_terms services entries i e ts latest have =
    let snapshot = and_parts (is_valid e) (e.kind == 1) latest.part.0 in
    let out : is_term e ≡ false = not_both (is_valid e) e.kind snapshot.1 in
    terms_as entries (struck i e entries) ts (terms_struck entries i e (record e { kind = struck_kind }) latest.at out refl) have
  where
    not_both : (b : Bool) (kind : ℕ) → (kind == 1) ≡ true → (b && (kind == 0)) ≡ false
    not_both false kind one = refl
    not_both true kind one = let is : kind ≡ 1 = eqb-true kind 1 one in ap (λ k. k == 0) is

-- a change whose images all stand for one of two states
module _ {D : Type 0} (state : D → DiskState) (moment : D → ℕ) (left_since : D → ℕ → (ℕ → List ℕ) → Type 0) (T : Type 0) (changes : ℕ → Type 0) (before after : Kept) (old new : D) (result : Result T MemberFault) where
  pub part_cut_well : (p : Part) → p.makes ≡ after → HaveTerms before.entries (new_terms 0 before.log) → HaveTerms after.entries (new_terms 0 after.log)
      → IsMade state moment left_since (p ∷ []) before old new result → Spares state moment left_since changes old new → IsCutWell state moment left_since changes before after old new
  part_cut_well p is terms_before terms_after made spares =
      let one : (c : ℕ → List ℕ) → StandsAmong (stages (p ∷ []) before) c → IsDurableOne before after c =
      λ c among. ⊎_elim (λ was. inl (durable_same before c terms_before was)) (λ rest. ⊎_elim (λ now. inr (durable_same after c terms_after (subst (λ (k : Kept). Stands k c) is now))) (λ none. absurd none) rest) among in
      record { each = λ c image. one c (made.each c image); run = weaker moment left_since old new (StandsAmong (stages (p ∷ []) before)) (IsDurableOne before after) one made.run; snapshots = spares }

  pub strike_cut_well : HaveTerms before.entries (new_terms 0 before.log) → HaveTerms after.entries (new_terms 0 after.log)
      → IsStruck state moment left_since before after old new result → Spares state moment left_since changes old new → IsCutWell state moment left_since changes before after old new
  strike_cut_well terms_before terms_after made spares =
      let one : (c : ℕ → List ℕ) → CountsAsOne before after c → IsDurableOne before after c =
      λ c is. ⊎_elim (λ was. inl (durable_counts before c terms_before was)) (λ now. inr (durable_counts after c terms_after now)) is in
      record { each = λ c image. one c (made.each c image); run = weaker moment left_since old new (CountsAsOne before after) (IsDurableOne before after) one made.run; snapshots = spares }

  -- a cut, also one to the whole log
  pub cut_cut_well : (n : ℕ) → after ≡ (cut_part before n).makes → HaveTerms before.entries (new_terms 0 before.log) → HaveTerms after.entries (new_terms 0 after.log)
      → IsMade state moment left_since (cut_parts before n) before old new result → Spares state moment left_since changes old new → IsCutWell state moment left_since changes before after old new
  cut_cut_well n is terms_before terms_after made spares = go (n == length before.log) refl
    where
      go : (b : Bool) → (n == length before.log) ≡ b → IsCutWell state moment left_since changes before after old new
      go true test =
          let none = subst (λ (ps : List Part). IsMade state moment left_since ps before old new result) (cond-true (n == length before.log) [] (cut_part before n ∷ []) test) made in
          let one : (c : ℕ → List ℕ) → StandsAmong (stages [] before) c → IsDurableOne before after c = λ c among. ⊎_elim (λ was. inl (durable_same before c terms_before was)) (λ none. absurd none) among in
          record { each = λ c image. one c (none.each c image); run = weaker moment left_since old new (StandsAmong (stages [] before)) (IsDurableOne before after) one none.run; snapshots = spares }
      go false test =
          part_cut_well (cut_part before n) (sym is) terms_before terms_after
          (subst (λ (ps : List Part). IsMade state moment left_since ps before old new result) (cond-false (n == length before.log) [] (cut_part before n ∷ []) test) made) spares
