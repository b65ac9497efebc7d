-- The row that the core ran is the row over the log, and what was made of it is what it says.
use Rattle.std.proofs.Common.{◌≡◌, ℕ, ◌≤◌, Bool, true, false, ◌||◌, List, sym, ap, subst, ◌∙◌}
use Rattle.std.specs.Prelude.{Result, Ok, Err, OnErr, OnOk}
use Rattle.sbe_consensus.specs.declared.packet.Outgoing.{Outgoing}
use Rattle.member_disk.specs.Kept.{Kept, Held as DiskHeld}
use Rattle.consensus_core.specs.declared.change.Change.{Change}
use Rattle.consensus_core.specs.declared.row.Row.{Row}
use Rattle.consensus_core.specs.declared.values.Values.{Values}
use Rattle.consensus_core.specs.Fit.{Held as CoreHeld, held_by}
use Rattle.consensus_core.specs.Member.{is_ready}
use Rattle.consensus_agent.specs.Rows.{Made, CutRow, IsSpoken, RowRan}
use Rattle.consensus_agent.specs.Sound.{CanRun, ends_phase}
use Rattle.consensus_agent.proofs.Commits.{Moves, row_rises, row_still}

-- the change and the values that the core gave, of its row
pub record Gave (row : Row) (c : Change) (h : CoreHeld) : Type 0 where
  pub change : c ≡ row.change
  pub held : h ≡ held_by row

abbrev change_in : Row → Change
change_in row = row.change

pub gave : (row own : Row) (c : Change) (h : CoreHeld) → own ≡ row → c ≡ own.change → h ≡ held_by own → Gave row c h
gave row own c h same change held = record { change = change ∙ ap change_in same; held = held ∙ ap held_by same }

pub can_run : (row : Row) (c : Change) (h : CoreHeld) (k : Kept) (n : ℕ) → Gave row c h → CanRun row.change row.values k n → CanRun c h.values k n
can_run row c h k n g can =
    subst (λ z. CanRun z h.values k n) (sym g.change) (subst (λ (z : CoreHeld). CanRun row.change z.values k n) (sym g.held) can)

pub ran : (told : Bool) (row : Row) (c : Change) (h : CoreHeld) (w : Values) (a b : Kept) (out : List Outgoing) → Gave row c h → Made c a b → w ≡ h.values → IsSpoken told h b.log out → RowRan told row a b w out
ran told row c h w a b out g made values spoken = record {
  change = subst (λ z. Made z a b) g.change made;
  values = values ∙ ap (λ (z : CoreHeld). z.values) g.held;
  sent = subst (λ z. IsSpoken told z b.log out) g.held spoken;
}

pub cut_short : (row : Row) (c : Change) (h : CoreHeld) (a b : Kept) → Gave row c h → CutRow c a b → CutRow row.change a b
cut_short row c h a b g cut = subst (λ z. CutRow z a b) g.change cut

pub rises : (v w : Values) (row : Row) (c : Change) (h : CoreHeld) → Gave row c h → Moves v.rest (is_ready v.election.state) row → w ≡ h.values → v.rest.commit ≤ w.rest.commit
rises v w row c h g moves values = row_rises v w row moves (values ∙ ap (λ (z : CoreHeld). z.values) g.held)

pub still : (v w : Values) (row : Row) (c : Change) (h : CoreHeld) (was old new : Bool) → Gave row c h → Moves v.rest (is_ready v.election.state) row → w ≡ h.values → was ≡ is_ready v.election.state
    → new ≡ (old || ends_phase was c h.values.election.state) → new ≡ true → old ≡ false → w.rest.commit ≡ v.rest.commit
still v w row c h was old new g moves values before over now not_before =
    row_still v w row c h.values.election.state was old new moves (values ∙ ap (λ (z : CoreHeld). z.values) g.held) g.change (ap (λ (z : CoreHeld). z.values.election.state) g.held) before over now not_before

-- ---- answers

abbrev pub values_in : CoreHeld → Values
values_in h = h.values

abbrev pub kept_in : {D : Type 0} → DiskHeld D → Kept
kept_in d = d.kept

pub on_ok : {T E P Q : Type 0} (r : Result T E) → (P → Q) → OnOk r P → OnOk r Q
on_ok (Ok x) f h = f h
on_ok (Err e) f h = tt

pub on_both : {T E P Q R : Type 0} (r : Result T E) → (P → Q → R) → OnOk r P → OnOk r Q → OnOk r R
on_both (Ok x) f h g = f h g
on_both (Err e) f h g = tt

pub err_out : {T E P : Type 0} (r : Result T E) (e : E) → r ≡ Err e → OnErr r P → P
err_out (Ok y) e is h = absurd (cc)
err_out (Err y) e is h = h

pub on_err : {T E P : Type 0} (r : Result T E) → P → OnErr r P
on_err (Ok y) p = tt
on_err (Err y) p = p

pub ok_out : {T E P : Type 0} (r : Result T E) (x : T) → r ≡ Ok x → OnOk r P → P
ok_out (Ok y) x is h = h
ok_out (Err e) x is h = absurd (cc)
