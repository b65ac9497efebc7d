-- The newest change is taken back, and the older ones are left.
use Rattle.std.proofs.Common.{◌≡◌, sym, ◌∙◌, ap, subst, List, ℕ}
use Rattle.cl_memdisk.specs.Changes.{before_all, taken_back, AllInPlace}
use Rattle.cl_memdisk.specs.declared.change.Change.{Change}
use Rattle.cl_memdisk.proofs.ChangeLemmas.{before_all-push, in_place-pop, in_place-room}
use Rattle.cl_memdisk.proofs.edit.take_all_back.Goals as goal

pub take_back-requires : goal.take_back-requires
take_back-requires c =
    let file = c.loop-change.file in
    let all = subst (λ (l : List Change). AllInPlace file.cap l file.items) c.in-Some.ensures.items c.loop-change.invariant.in_place in
    (in_place-pop file.cap c.pop.new.self.items c.in-Some.change file.items all).0

pub loop-change-preserved : goal.loop-change-preserved
loop-change-preserved c =
    let file = c.loop-change.file in
    let new = c.take_back.new.bytes in
    let older = c.pop.new.self.items in
    let change = c.in-Some.change in
    let all = subst (λ (l : List Change). AllInPlace file.cap l file.items) c.in-Some.ensures.items c.loop-change.invariant.in_place in
    let is : new.items ≡ taken_back change file.items = c.take_back.ensures.items in
    record {
      in_place = subst (λ (l : List ℕ). AllInPlace new.cap older l) (sym is) (in_place-room file.cap new.cap older (taken_back change file.items) c.take_back.ensures.room (in_place-pop file.cap older change file.items all).1);
      same = ap (before_all older) is ∙ sym (before_all-push older change file.items) ∙ ap (λ l. before_all l file.items) (sym c.in-Some.ensures.items) ∙ c.loop-change.invariant.same;
    }
