-- The first fault of a batch, in the order in which it is looked for.
use Rattle.std.proofs.Common.{◌≡◌, ◌⊎◌, inl, inr, ℕ, ◌+◌, ◌-◌, ◌<◌, ◌≤◌, Bool, true, false, not, ◌&&◌, ◌||◌, List, length, Option, Some, None, refl, sym, ◌∙◌, ap, arith}
use Rattle.std.specs.Prelude.{nat_le, ◌==◌}
use Rattle.std.proofs.lemmas.Bool.{le-leb, eq-eqb, lt-leb}
use Rattle.wire_prims.specs.Fields.{u16_at, i32_at}
use Rattle.wire_prims.specs.Header.{bad}
use Rattle.wire_prims.specs.Strict.{◌or_else◌, unless, rules_fault, rules_size, strict_fault}
use Rattle.wire_prims.specs.StrictLaws.{strict_none}
use Rattle.wire_prims.specs.declared.fault.Bad.{Bad}
use Rattle.wire_prims.specs.declared.fault.BadCause.TheVariants as causes
use Rattle.wire_prims.specs.declared.strict.Tail.TheVariants.{Nothing, Rest}
use Rattle.sbe_consensus.specs.Templates.{rules_of}
use Rattle.sbe_consensus.specs.Spelling.{count_of, counts, parts_there, parts_end, events_fault, lacks_entries, batch_fault}
use Rattle.sbe_consensus.specs.Laws.{Sound, is_batch, in_range}
use Rattle.sbe_consensus.specs.declared.template.Template.{Template}
use Rattle.sbe_consensus.specs.declared.template.Template.TheVariants as templates

or_nothing : (o : Option Bad) → (o or_else None) ≡ o
or_nothing None = refl
or_nothing (Some b) = refl

is_cut : (a b c p : Bool) (f g k : Bad) (r s t u : Option Bad) → ((a && b) && (c && not p)) ≡ true → (unless a f or_else unless b g or_else unless (not c || p) k or_else r or_else s or_else t or_else u) ≡ Some k
is_cut false b c p f g k r s t u e = absurd cc
is_cut true false c p f g k r s t u e = absurd cc
is_cut true true false p f g k r s t u e = absurd cc
is_cut true true true true f g k r s t u e = absurd cc
is_cut true true true false f g k r s t u e = refl

uncut : (a b c p q : Bool) (f g k m : Bad) (r s t u : Option Bad) → ((a && b) && (c && not p)) ≡ false → q ≡ true
    → (unless a f or_else unless b g or_else unless (not c || p) k or_else r or_else s or_else t or_else u) ≡ ((unless a f or_else unless b g or_else unless true k or_else r or_else s or_else unless q m) or_else t or_else u)
uncut false b c p q f g k m r s t u e h = refl
uncut true false c p q f g k m r s t u e h = refl
uncut true true false p true f g k m r s t u e h = ap (λ o. o or_else t or_else u) (sym (or_nothing (r or_else s)))
uncut true true false p false f g k m r s t u e h = absurd cc
uncut true true true true true f g k m r s t u e h = ap (λ o. o or_else t or_else u) (sym (or_nothing (r or_else s)))
uncut true true true true false f g k m r s t u e h = absurd cc
uncut true true true false q f g k m r s t u e h = absurd cc

all_there : (a b c p : Bool) → ((a && b) && (c && not p)) ≡ false → a ≡ true → b ≡ true → c ≡ true → p ≡ true
all_there a b c true e x y z = refl
all_there true true true false e x y z = absurd cc
all_there false b c false e x y z = absurd cc
all_there true false c false e x y z = absurd cc
all_there true true false false e x y z = absurd cc

pub cut_fault : (bytes : List ℕ) → lacks_entries bytes ≡ true → batch_fault bytes ≡ Some (bad (length bytes) causes.Short)
unfolding batch_fault
cut_fault bytes e =
    is_cut (u16_at 0 bytes == 24) (nat_le 32 (length bytes)) (counts bytes) (parts_there (count_of bytes) 32 bytes) (bad 0 causes.Block) (bad (length bytes) causes.Short) (bad (length bytes) causes.Short)
    (unless (u16_at 6 bytes == 0) (bad 6 causes.Value)) (rules_fault (rules_of templates.LogBatch) 8 bytes) (events_fault (count_of bytes) 32 bytes)
    (unless (nat_le (length bytes) (parts_end (count_of bytes) 32 bytes)) (bad (parts_end (count_of bytes) 32 bytes) causes.Trailing)) e

-- a byte follows the entries
abbrev late : List ℕ → Option Bad
late bytes = unless (nat_le (length bytes) (parts_end (count_of bytes) 32 bytes)) (bad (parts_end (count_of bytes) 32 bytes) causes.Trailing)

-- what is first wrong with the header and the block
abbrev pub head_fault : List ℕ → Option Bad
head_fault bytes = strict_fault (rules_of templates.LogBatch) (Rest (length bytes)) bytes

uncut_fault : (bytes : List ℕ) → lacks_entries bytes ≡ false → batch_fault bytes ≡ (head_fault bytes or_else events_fault (count_of bytes) 32 bytes or_else late bytes)
unfolding batch_fault strict_fault
uncut_fault bytes e =
    uncut (u16_at 0 bytes == 24) (nat_le 32 (length bytes)) (counts bytes) (parts_there (count_of bytes) 32 bytes) (nat_le (length bytes - 32) (length bytes)) (bad 0 causes.Block) (bad (length bytes) causes.Short) (bad (length bytes) causes.Short) (bad 32 causes.Value)
    (unless (u16_at 6 bytes == 0) (bad 6 causes.Value)) (rules_fault (rules_of templates.LogBatch) 8 bytes) (events_fault (count_of bytes) 32 bytes) (late bytes) e (le-leb (length bytes - 32) (length bytes) (omega arith))

module _ (bytes : List ℕ) (e : lacks_entries bytes ≡ false) where
  pub head_wrong : (b : Bad) → head_fault bytes ≡ Some b → batch_fault bytes ≡ Some b
  head_wrong b h = uncut_fault bytes e ∙ ap (λ o. o or_else events_fault (count_of bytes) 32 bytes or_else late bytes) h

  head_right : head_fault bytes ≡ None → batch_fault bytes ≡ (events_fault (count_of bytes) 32 bytes or_else late bytes)
  head_right h = uncut_fault bytes e ∙ ap (λ o. o or_else events_fault (count_of bytes) 32 bytes or_else late bytes) h

  pub head_there : head_fault bytes ≡ None → (32 ≤ length bytes) × (parts_there (count_of bytes) 32 bytes ≡ true)
  head_there h =
      let p = strict_none (rules_of templates.LogBatch) (Rest (length bytes)) bytes h in
      let whole : 32 ≤ length bytes = p.whole in
      (whole, all_there (u16_at 0 bytes == 24) (nat_le 32 (length bytes)) (counts bytes) (parts_there (count_of bytes) 32 bytes) e (eq-eqb (u16_at 0 bytes) 24 p.block) (le-leb 32 (length bytes) whole) (in_range (i32_at 28 bytes) p.pass.1.1.1.0))

  pub event_wrong : head_fault bytes ≡ None → (b : Bad) → events_fault (count_of bytes) 32 bytes ≡ Some b → batch_fault bytes ≡ Some b
  event_wrong h b f = head_right h ∙ ap (λ o. o or_else late bytes) f

  pub end_wrong : head_fault bytes ≡ None → events_fault (count_of bytes) 32 bytes ≡ None → parts_end (count_of bytes) 32 bytes < length bytes → batch_fault bytes ≡ Some (bad (parts_end (count_of bytes) 32 bytes) causes.Trailing)
  end_wrong h f lt = head_right h ∙ ap (λ o. o or_else late bytes) f ∙ ap (λ t. unless t (bad (parts_end (count_of bytes) 32 bytes) causes.Trailing)) (lt-leb (length bytes) (parts_end (count_of bytes) 32 bytes) lt)

  pub all_right : head_fault bytes ≡ None → events_fault (count_of bytes) 32 bytes ≡ None → length bytes ≤ parts_end (count_of bytes) 32 bytes → batch_fault bytes ≡ None
  all_right h f le = head_right h ∙ ap (λ o. o or_else late bytes) f ∙ ap (λ t. unless t (bad (parts_end (count_of bytes) 32 bytes) causes.Trailing)) (le-leb (length bytes) (parts_end (count_of bytes) 32 bytes) le)

pub answer_size : (t : Template) → t ≡ templates.Answer ⊎ t ≡ templates.Announcement → rules_size (rules_of t) ≡ 44
answer_size t (inl e) = ap (λ k. rules_size (rules_of k)) e
answer_size t (inr e) = ap (λ k. rules_size (rules_of k)) e

-- the header and the block of what spells a packet
pub sound_long : (t : Template) (bytes : List ℕ) → Sound t bytes → 8 + rules_size (rules_of t) ≤ length bytes
sound_long templates.Canvass bytes s = (strict_none (rules_of templates.Canvass) Nothing bytes s.free).whole
sound_long templates.RequestVote bytes s = (strict_none (rules_of templates.RequestVote) Nothing bytes s.free).whole
sound_long templates.Vote bytes s = (strict_none (rules_of templates.Vote) Nothing bytes s.free).whole
sound_long templates.Answer bytes s = (strict_none (rules_of templates.Answer) Nothing bytes s.free).whole
sound_long templates.Announcement bytes s = (strict_none (rules_of templates.Announcement) Nothing bytes s.free).whole
sound_long templates.Append bytes s = (strict_none (rules_of templates.Append) Nothing bytes s.free).whole
sound_long templates.Commit bytes s = (strict_none (rules_of templates.Commit) Nothing bytes s.free).whole
sound_long templates.LogBatch bytes s = (is_batch bytes s.free).strict.whole
