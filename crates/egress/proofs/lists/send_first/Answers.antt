use Rattle.std.proofs.Common.{◌≡◌, List, subst, sym, ap, ◌∙◌, rules, FitsSigned, w32}
use Rattle.std.specs.List.{insert}
use Rattle.std.proofs.lemmas.Int.{to_z-of_z}
use Rattle.egress.specs.Streams.{StreamSeen, StreamsRise, with_record, sent_more}
use Rattle.egress.proofs.Placed.{more_new, more_rises}
use Rattle.egress.proofs.lists.send_first.Goals as goal

placed : (c : goal.In-Ok) → c.insert.new.self.items ≡ sent_more c.args.s c.args.streams.now.items
placed c =
    let f : FitsSigned w32 c.args.s.stream = search rules in
    let empty = simp to_z-of_z at c.new-stream.ensures in
    c.in-Ok.ensures.items
    ∙ ap (λ (b : StreamSeen). insert c.args.streams.now.items c.args.place b) (c.in_ok-send.ensures.ok ∙ ap (with_record c.args.s) empty)
    ∙ sym (more_new c.args.s c.args.streams.now.items c.args.place c.requires.within c.requires.between)

pub returns-clause-ok : goal.returns-clause-ok
returns-clause-ok c = placed c

pub returns-clause-rise : goal.returns-clause-rise
returns-clause-rise c = subst (λ (l : List StreamSeen). StreamsRise l) (sym (placed c)) (more_rises c.args.s c.args.streams.now.items c.requires.rise)
