-- One entry is a batch.
use Rattle.std.specs.Prelude.{All}
use Rattle.std.proofs.Common.{inl, zero, suc, negsuc, ◌∷◌, [], ◌∙◌, ap, arith}
use Rattle.std.proofs.lemmas.Int.{ints}
use Rattle.entry_log.specs.Shape.{Shape, last_term_of, last_term_from-shape_of}
use Rattle.cl_base.specs.declared.entry.Entry.{Entry}
use Rattle.log_segment.specs.Held.{IsEventEntry}
use Rattle.disk_rows.proofs.member_rows.append_one.Goals as goal

one_event : (e : Entry) → IsEventEntry e → All IsEventEntry (e ∷ [])
one_event e is zero d within = is
one_event e is (suc i) d within = absurd (omega (arith, within))

pub append-requires-clause-batch : goal.append-requires-clause-batch
append-requires-clause-batch c = record { some = omega arith; few = omega arith; small = inl (omega arith); together = tt }

pub append-requires-clause-events : goal.append-requires-clause-events
append-requires-clause-events c = one_event c.args.entry c.requires

pub append-requires-clause-rises : goal.append-requires-clause-rises
append-requires-clause-rises c =
    let is = c.last_term-last.ensures ∙ ap (λ (s : Shape). last_term_of s) c.index.ensures.index ∙ last_term_from-shape_of (negsuc 0) c.args.member.kept.log in
    (omega (arith, ints, is, c.if-last-term.false), tt)
