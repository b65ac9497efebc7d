-- An append in parts is cut well: TERM entries mean nothing of themselves, and stand before the batch does.
use Rattle.std.specs.Prelude.{All, ⊤, if◌then◌else◌}
use Rattle.std.proofs.Common.{◌≡◌, ◌⊎◌, inl, inr, ⊎_elim, ℕ, suc, ◌+◌, ◌<◌, Bool, true, false, Some, None, Option, List, [], ◌∷◌, ◌++◌, length, Result, refl, sym, ◌∙◌, ap, subst, arith}
use Rattle.cl_base.specs.Disk.{DiskState}
use Rattle.cl_base.specs.Torn.{weaker}
use Rattle.cl_base.specs.declared.entry.Entry.{Entry}
use Rattle.cl_base.specs.declared.fault.MemberFault.{MemberFault}
use Rattle.node_state.specs.Node.{Tells}
use Rattle.entry_log.specs.Log.{Log}
use Rattle.recording_log.specs.declared.entry.RecEntry.{RecEntry}
use Rattle.recording_log.specs.Valid.{terms_of}
use Rattle.log_segment.specs.Segment.{LogIs}
use Rattle.log_segment.specs.declared.kept.NewTerm.{NewTerm}
use Rattle.log_segment.specs.Held.{IsEventEntry, new_term_of, put_term, new_terms}
use Rattle.member_disk.specs.Kept.{Kept, Stands, StandsAmong}
use Rattle.member_disk.specs.Changes.{HasMoreTerms, HasTerm, HaveTerms, IsNewRanged, has_term, term_at}
use Rattle.member_disk.specs.Parts.{Part, stages, IsMade, made, term_part, wanted_parts, term_parts, batch_part, append_parts}
use Rattle.member_disk.specs.CutWell.{IsDurable, IsDurableOne, Spares, IsCutWell}
use Rattle.member_disk.proofs.Grown.{grew_term, terms_none, terms_more}
use Rattle.member_disk.proofs.Terms.{term_stays, terms_stay, term_added, terms_from}
use Rattle.member_disk.proofs.NewTerms.{new_ranged}
use Rattle.member_disk.proofs.Lists.{made_both}
use Rattle.member_disk.proofs.TermParts.{has_index, wanted_none, wanted_one}
use Rattle.member_disk.proofs.CutWells.{durable_more, snapshots_stay, put_first}

-- each of these parts adds TERM entries alone
abbrev OnlyTerms : Kept → List Part → Type 0
OnlyTerms kept [] = ⊤
OnlyTerms kept (p ∷ ps) = HasMoreTerms kept p.makes × OnlyTerms p.makes ps

only_both : (ps qs : List Part) (kept : Kept) → OnlyTerms kept ps → OnlyTerms (made ps kept) qs → OnlyTerms kept (ps ++ qs)
only_both [] qs kept first second = second
only_both (p ∷ ps) qs kept first second = (first.0, only_both ps qs p.makes first.1 second)

only_made : (ps : List Part) (kept : Kept) → OnlyTerms kept ps → HasMoreTerms kept (made ps kept)
only_made [] kept only = terms_none kept
only_made (p ∷ ps) kept only = terms_more kept p.makes (made ps p.makes) only.0 (only_made ps p.makes only.1)

only_wanted : (kept : Kept) (o : Option NewTerm) → OnlyTerms kept (wanted_parts kept o)
only_wanted kept None = tt
only_wanted kept (Some t) = go (has_term (terms_of kept.entries) (term_at t))
  where
    go : (b : Bool) → OnlyTerms kept (if b then [] else term_part kept t ∷ [])
    go true = tt
    go false = (record { node = refl; services = refl; log = refl; entries = grew_term kept.entries t.term t.base t.stamp }, tt)

only_terms : (es : Log) (kept : Kept) → OnlyTerms kept (term_parts kept es)
only_terms [] kept = tt
only_terms (e ∷ es) kept =
    only_both (wanted_parts kept (new_term_of 0 e.bytes)) (term_parts (made (wanted_parts kept (new_term_of 0 e.bytes)) kept) es) kept
    (only_wanted kept (new_term_of 0 e.bytes)) (only_terms es (made (wanted_parts kept (new_term_of 0 e.bytes)) kept))

-- TERM entries alone were added before a batch
pub before_batch : (kept : Kept) (batch : Log) → HasMoreTerms kept (made (term_parts kept batch) kept)
before_batch kept batch = only_made (term_parts kept batch) kept (only_terms batch kept)

-- a state on the way
pub record OnTheWay (kept : Kept) (c : ℕ → List ℕ) : Type 0 where
  pub state : Kept
  pub more : HasMoreTerms kept state
  pub stands : Stands state c

among_only : (ps qs : List Part) (first kept : Kept) (c : ℕ → List ℕ) → HasMoreTerms first kept → OnlyTerms kept ps → StandsAmong (stages (ps ++ qs) kept) c → OnTheWay first c ⊎ StandsAmong (stages qs (made ps kept)) c
among_only [] qs first kept c more only among = inr among
among_only (p ∷ ps) qs first kept c more only among = ⊎_elim
    (λ is. inl (record { state = kept; more = more; stands = is }))
    (λ rest. among_only ps qs first p.makes c (terms_more first kept p.makes more only.0) only.1 rest)
    among

-- each term that a batch wants is there after its parts
wanted_there : (kept : Kept) (t : NewTerm) → IsNewRanged t → HasTerm (made (wanted_parts kept (Some t)) kept).entries t
wanted_there kept t range = go (has_term (terms_of kept.entries) (term_at t)) refl
  where
    go : (b : Bool) → has_term (terms_of kept.entries) (term_at t) ≡ b → HasTerm (made (wanted_parts kept (Some t)) kept).entries t
    go true is = subst (λ (ps : List Part). HasTerm (made ps kept).entries t) (sym (wanted_none kept t is)) (has_index (terms_of kept.entries) (term_at t) is)
    go false is = subst (λ (ps : List Part). HasTerm (made ps kept).entries t) (sym (wanted_one kept t is)) (term_added kept.entries (term_part kept t).makes.entries t range refl)

pub terms_wanted : (batch : Log) (kept : Kept) → All IsEventEntry batch → HaveTerms (made (term_parts kept batch) kept).entries (new_terms 0 batch)
terms_wanted [] kept events = tt
terms_wanted (e ∷ es) kept events =
    let next : Kept = made (wanted_parts kept (new_term_of 0 e.bytes)) kept in
    let rest = terms_from (made (term_parts next es) next).entries 0 1 es (terms_wanted es next (λ i d within. events (suc i) d (omega (arith, within)))) in
    subst (λ (k : Kept). HaveTerms k.entries (new_terms 0 (e ∷ es))) (sym (made_both (wanted_parts kept (new_term_of 0 e.bytes)) (term_parts next es) kept))
    (here (new_term_of 0 e.bytes) refl (before_batch next es) rest)
  where
    here : (o : Option NewTerm) → new_term_of 0 e.bytes ≡ o → HasMoreTerms (made (wanted_parts kept (new_term_of 0 e.bytes)) kept) (made (term_parts (made (wanted_parts kept (new_term_of 0 e.bytes)) kept) es) (made (wanted_parts kept (new_term_of 0 e.bytes)) kept))
        → HaveTerms (made (term_parts (made (wanted_parts kept (new_term_of 0 e.bytes)) kept) es) (made (wanted_parts kept (new_term_of 0 e.bytes)) kept)).entries (new_terms 1 es)
        → HaveTerms (made (term_parts (made (wanted_parts kept (new_term_of 0 e.bytes)) kept) es) (made (wanted_parts kept (new_term_of 0 e.bytes)) kept)).entries (new_terms 0 (e ∷ es))
    here None is more rest = subst (λ (o : Option NewTerm). HaveTerms (made (term_parts (made (wanted_parts kept (new_term_of 0 e.bytes)) kept) es) (made (wanted_parts kept (new_term_of 0 e.bytes)) kept)).entries (put_term o (new_terms 1 es))) (sym is) rest
    here (Some t) is more rest =
        let next : Kept = made (wanted_parts kept (new_term_of 0 e.bytes)) kept in
        let last : Kept = made (term_parts next es) next in
        let range = new_ranged e 0 t (events 0 e (omega arith)) is in
        let there : HasTerm next.entries t = subst (λ (o : Option NewTerm). HasTerm (made (wanted_parts kept o) kept).entries t) (sym is) (wanted_there kept t range) in
        subst (λ (o : Option NewTerm). HaveTerms last.entries (put_term o (new_terms 1 es))) (sym is) (term_stays next.entries last.entries t more.entries there, rest)

terms_append : (entries : List RecEntry) (i : ℕ) (xs ys : Log) → HaveTerms entries (new_terms i xs) → HaveTerms entries (new_terms 0 ys) → HaveTerms entries (new_terms i (xs ++ ys))
terms_append entries i [] ys first second = terms_from entries 0 i ys second
terms_append entries i (x ∷ xs) ys first second = put_first entries (new_term_of i x.bytes) (new_terms (i + 1) xs) (new_terms (i + 1) (xs ++ ys)) first (λ have. terms_append entries (i + 1) xs ys have second)

module _ {D : Type 0} (state : D → DiskState) (moment : D → ℕ) (left_since : D → ℕ → (ℕ → List ℕ) → Type 0) (T : Type 0) (changes : ℕ → Type 0) (before : Kept) (batch : Log) (old new : D) (result : Result T MemberFault)
    (events : All IsEventEntry batch) (terms : HaveTerms before.entries (new_terms 0 before.log)) where
  abbrev after : Kept
  after = record before { log = before.log ++ batch }

  abbrev ready : Kept
  ready = made (term_parts before batch) before

  one : (c : ℕ → List ℕ) → StandsAmong (stages (append_parts before batch) before) c → IsDurableOne before after c
  one c among =
      let more : HasMoreTerms before ready = before_batch before batch in
      ⊎_elim
      (λ way. inl (durable_more before way.state c terms way.more way.stands))
      (λ last. ⊎_elim
      (λ is. inl (durable_more before ready c terms more is))
      (λ rest. ⊎_elim (λ is. inr (record {
        node = subst (λ n. Tells n (c 0)) more.node is.node;
        entries = ready.entries;
        holds = is.entries;
        snapshots = snapshots_stay before.entries ready.entries more.entries;
        terms = terms_append ready.entries 0 before.log batch (stay ready more) (terms_wanted batch before events);
        log = subst (λ (l : Log). LogIs (l ++ batch) c) more.log is.log;
      })) (λ none. absurd none) rest)
      last)
      (among_only (term_parts before batch) (batch_part ready batch ∷ []) before before c (terms_none before) (only_terms batch before) among)
    where
      stay : (k : Kept) → HasMoreTerms before k → HaveTerms k.entries (new_terms 0 before.log)
      stay k more = terms_stay before.entries k.entries (new_terms 0 before.log) more.entries terms

  pub append_cut_well : IsMade state moment left_since (append_parts before batch) before old new result → Spares state moment left_since changes old new → IsCutWell state moment left_since changes before after old new
  append_cut_well made spares = record { each = λ c image. one c (made.each c image); run = weaker moment left_since old new (StandsAmong (stages (append_parts before batch) before)) (IsDurableOne before after) one made.run; snapshots = spares }
