-- No packet's spelling is a proper prefix of another packet's.
use Rattle.std.proofs.Common.{◌≡◌, ◌⊎◌, inl, inr, ℕ, zero, suc, ◌+◌, ◌≤◌, true, List, [], ◌++◌, length, refl, sym, ◌∙◌, ap, subst, arith}
use Rattle.std.specs.Prelude.{unsigned_abs}
use Rattle.std.proofs.lemmas.List.{length-append, nil_from_length}
use Rattle.wire_prims.specs.Fields.{u16_at, u16_at-append, u32_at-append, i32_at-append}
use Rattle.wire_prims.specs.StrictLaws.{strict_none, strict_ends}
use Rattle.wire_prims.specs.declared.strict.Tail.TheVariants.{Nothing}
use Rattle.sbe_consensus.specs.Templates.{number_of, is_announcement, rules_of}
use Rattle.sbe_consensus.specs.Spelling.{HasSpelling, spelling_of, count_of, part_end, parts_there, parts_end}
use Rattle.sbe_consensus.specs.BatchLaws.{there_parts}
use Rattle.sbe_consensus.specs.Laws.{Sound, template_number, is_batch, reread}
use Rattle.sbe_consensus.specs.declared.template.Template.{Template}
use Rattle.sbe_consensus.specs.declared.template.Template.TheVariants as templates
use Rattle.sbe_consensus.specs.declared.packet.Packet.{Packet}

-- ---- where bytes without a fault end

-- they end where the block does, whose length they name
pub record EndsWithBlock (bytes : List ℕ) : Type 0 where
  pub small : u16_at 2 bytes ≤ 55
  pub ends : length bytes ≡ 8 + u16_at 0 bytes

-- they end where the entries do, whose number they name
pub record EndsWithEntries (bytes : List ℕ) : Type 0 where
  pub number : u16_at 2 bytes ≡ 120
  pub long : 32 ≤ length bytes
  pub there : parts_there (count_of bytes) 32 bytes ≡ true
  pub ends : length bytes ≡ parts_end (count_of bytes) 32 bytes

number_there : (t : Template) (bytes : List ℕ) → Sound t bytes → u16_at 2 bytes ≡ number_of t
number_there t bytes s = template_number (u16_at 2 bytes) (is_announcement bytes) t s.here

pub ends_of : (t : Template) (bytes : List ℕ) → Sound t bytes → EndsWithBlock bytes ⊎ EndsWithEntries bytes
ends_of templates.Canvass bytes s =
    let p = strict_none (rules_of templates.Canvass) Nothing bytes s.free in
    inl (record { small = omega (arith, number_there templates.Canvass bytes s); ends = omega (arith, strict_ends (rules_of templates.Canvass) Nothing bytes p, p.block) })
ends_of templates.RequestVote bytes s =
    let p = strict_none (rules_of templates.RequestVote) Nothing bytes s.free in
    inl (record { small = omega (arith, number_there templates.RequestVote bytes s); ends = omega (arith, strict_ends (rules_of templates.RequestVote) Nothing bytes p, p.block) })
ends_of templates.Vote bytes s =
    let p = strict_none (rules_of templates.Vote) Nothing bytes s.free in
    inl (record { small = omega (arith, number_there templates.Vote bytes s); ends = omega (arith, strict_ends (rules_of templates.Vote) Nothing bytes p, p.block) })
ends_of templates.Answer bytes s =
    let p = strict_none (rules_of templates.Answer) Nothing bytes s.free in
    inl (record { small = omega (arith, number_there templates.Answer bytes s); ends = omega (arith, strict_ends (rules_of templates.Answer) Nothing bytes p, p.block) })
ends_of templates.Announcement bytes s =
    let p = strict_none (rules_of templates.Announcement) Nothing bytes s.free in
    inl (record { small = omega (arith, number_there templates.Announcement bytes s); ends = omega (arith, strict_ends (rules_of templates.Announcement) Nothing bytes p, p.block) })
ends_of templates.Append bytes s =
    let p = strict_none (rules_of templates.Append) Nothing bytes s.free in
    inl (record { small = omega (arith, number_there templates.Append bytes s); ends = omega (arith, strict_ends (rules_of templates.Append) Nothing bytes p, p.block) })
ends_of templates.Commit bytes s =
    let p = strict_none (rules_of templates.Commit) Nothing bytes s.free in
    inl (record { small = omega (arith, number_there templates.Commit bytes s); ends = omega (arith, strict_ends (rules_of templates.Commit) Nothing bytes p, p.block) })
ends_of templates.LogBatch bytes s =
    let b = is_batch bytes s.free in
    inr (record { number = number_there templates.LogBatch bytes s; long = b.strict.whole; there = b.parts; ends = b.ends })

-- ---- a spelling in front of another

-- the parts that are there end at the same place when bytes are put behind them
parts_end-append : (n at : ℕ) (bytes rest : List ℕ) → parts_there n at bytes ≡ true → parts_end n at (bytes ++ rest) ≡ parts_end n at bytes
parts_end-append zero at bytes rest there = refl
parts_end-append (suc n) at bytes rest there =
    let p = there_parts n at bytes there in
    let same : part_end at (bytes ++ rest) ≡ part_end at bytes = ap (λ k. at + 4 + k) (u32_at-append at bytes rest (omega (arith, p.0))) in
    ap (λ k. parts_end n k (bytes ++ rest)) same ∙ parts_end-append n (part_end at bytes) bytes rest p.1

module _ (bytes rest : List ℕ) where
  no_more : length (bytes ++ rest) ≡ length bytes → rest ≡ []
  no_more e = nil_from_length rest (omega (arith, length-append bytes rest))

  ends_alike : 8 ≤ length bytes → EndsWithBlock bytes ⊎ EndsWithEntries bytes → EndsWithBlock (bytes ++ rest) ⊎ EndsWithEntries (bytes ++ rest) → rest ≡ []
  ends_alike long (inl a) (inl b) =
      let same = u16_at-append 0 bytes rest (omega (arith, long)) in
      no_more (omega (arith, a.ends, b.ends, same))
  ends_alike long (inl a) (inr b) = absurd (omega (arith, a.small, b.number, u16_at-append 2 bytes rest (omega (arith, long))))
  ends_alike long (inr a) (inl b) = absurd (omega (arith, a.number, b.small, u16_at-append 2 bytes rest (omega (arith, long))))
  ends_alike long (inr a) (inr b) =
      let count : count_of (bytes ++ rest) ≡ count_of bytes = ap unsigned_abs (i32_at-append 28 bytes rest (omega (arith, a.long))) in
      no_more (b.ends ∙ ap (λ n. parts_end n 32 (bytes ++ rest)) count ∙ parts_end-append (count_of bytes) 32 bytes rest a.there ∙ sym a.ends)

-- no spelling is a proper prefix of another
pub prefix_free : (p other : Packet) (rest : List ℕ) → HasSpelling p → HasSpelling other → spelling_of other ≡ spelling_of p ++ rest → rest ≡ []
prefix_free p other rest hp ho is =
    let r = reread p hp in
    let o = reread other ho in
    let u : Sound o.0 (spelling_of p ++ rest) = subst (λ l. Sound o.0 l) is o.1.sound in
    ends_alike (spelling_of p) rest r.1.sound.long (ends_of r.0 (spelling_of p) r.1.sound) (ends_of o.0 (spelling_of p ++ rest) u)
