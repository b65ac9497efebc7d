-- The TERM entries that a batch wants, added entry by entry.
use Rattle.std.specs.Prelude.{OnOk}
use Rattle.std.proofs.Common.{◌≡◌, ℕ, ◌+◌, List, [], ◌∷◌, ◌++◌, length, take, drop, Result, Ok, Err, IsTrue, sym, ◌∙◌, ap, subst}
use Rattle.std.proofs.lemmas.List.{take-append-drop}
use Rattle.cl_base.specs.Runs.{DiskLaws}
use Rattle.cl_base.specs.declared.entry.Entry.{Entry}
use Rattle.cl_base.specs.declared.fault.MemberFault.{MemberFault}
use Rattle.entry_log.specs.Log.{Log}
use Rattle.log_segment.specs.Held.{new_term_of}
use Rattle.member_disk.specs.Kept.{Kept, EachStands}
use Rattle.member_disk.specs.Parts.{Part, IsMade, made, wanted_parts, term_parts}
use Rattle.member_disk.proofs.Lists.{made_both, then_all, early_all}
use Rattle.member_disk.proofs.TermParts.{term_parts_both, term_parts_more}

-- what is kept on the way stands on each image
pub standing : {D : Type 0} (L : DiskLaws D) (kept now : Kept) (es : Log) (old mid : D) → now ≡ made (term_parts kept es) kept → IsMade {T = Unit {0}} L.state L.moment L.left_since (term_parts kept es) kept old mid (Ok tt) → EachStands now (L.state mid).files
standing L kept now es old mid is so_far = subst (λ (k : Kept). EachStands k (L.state mid).files) (sym is) so_far.done

pub entry_makes : (kept now next : Kept) (xs : Log) (i : ℕ) (e : Entry) → take (i + 1) xs ≡ take i xs ++ e ∷ [] → now ≡ made (term_parts kept (take i xs)) kept → next ≡ made (wanted_parts now (new_term_of 0 e.bytes)) now → next ≡ made (term_parts kept (take (i + 1) xs)) kept
entry_makes kept now next xs i e more is then_is =
    let ps : List Part = term_parts kept (take i xs) in
    then_is ∙ ap (λ (k : Kept). made (wanted_parts k (new_term_of 0 e.bytes)) k) is
    ∙ sym (made_both ps (wanted_parts (made (term_parts kept (take i xs)) kept) (new_term_of 0 e.bytes)) kept)
    ∙ sym (ap (λ (qs : List Part). made qs kept) (ap (term_parts kept) more ∙ term_parts_more kept (take i xs) e))

pub entry_made : {D : Type 0} (L : DiskLaws D) (kept now : Kept) (xs : Log) (i : ℕ) (e : Entry) (old mid new : D) (result : Result (Unit {0}) MemberFault) → take (i + 1) xs ≡ take i xs ++ e ∷ [] → now ≡ made (term_parts kept (take i xs)) kept
    → IsMade {T = Unit {0}} L.state L.moment L.left_since (term_parts kept (take i xs)) kept old mid (Ok tt) → IsMade {T = Unit {0}} L.state L.moment L.left_since (wanted_parts now (new_term_of 0 e.bytes)) now mid new result
    → IsMade {T = Unit {0}} L.state L.moment L.left_since (term_parts kept (take (i + 1) xs)) kept old new result
entry_made L kept now xs i e old mid new result more is so_far next =
    let ps : List Part = term_parts kept (take i xs) in
    let there : Kept = made (term_parts kept (take i xs)) kept in
    let qs : List Part = wanted_parts there (new_term_of 0 e.bytes) in
    let here = subst (λ (k : Kept). IsMade {T = Unit {0}} L.state L.moment L.left_since (wanted_parts k (new_term_of 0 e.bytes)) k mid new result) is next in
    subst (λ (rs : List Part). IsMade {T = Unit {0}} L.state L.moment L.left_since rs kept old new result) (sym (ap (term_parts kept) more ∙ term_parts_more kept (take i xs) e))
    (then_all L.state L.moment L.left_since (Unit {0}) (Unit {0}) ps qs kept old mid tt new result so_far here)

-- those of the first entries failed, and none follows
pub early_terms : {D : Type 0} (L : DiskLaws D) (kept : Kept) (xs : Log) (n : ℕ) (old mid : D) (e : MemberFault) → IsMade {T = Unit {0}} L.state L.moment L.left_since (term_parts kept (take n xs)) kept old mid (Err e) → IsMade {T = Unit {0}} L.state L.moment L.left_since (term_parts kept xs) kept old mid (Err e)
early_terms L kept xs n old mid e first =
    let ps : List Part = term_parts kept (take n xs) in
    let qs : List Part = term_parts (made (term_parts kept (take n xs)) kept) (drop n xs) in
    subst (λ (rs : List Part). IsMade {T = Unit {0}} L.state L.moment L.left_since rs kept old mid (Err e)) (sym (term_parts_both kept (take n xs) (drop n xs)) ∙ ap (term_parts kept) (take-append-drop n xs))
    (early_all L.state L.moment L.left_since (Unit {0}) (Unit {0}) ps qs kept old mid e first)
