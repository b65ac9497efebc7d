use Rattle.std.proofs.Common.{ℕ, Bool, ◌≡◌, ◌≤◌, drop}
use Rattle.echo_run.specs.Form.{all_fit, is_of_form}
use Rattle.echo_run.proofs.form.is_of_form.Given as goal

-- what is left is judged from here on, and the rounds so far are few
pub record Judged (before : ℕ) (now all : Bool) : Type 0 where
  pub few : before ≤ 900
  pub same : now ≡ all

abbrev pub invariant-loop-order : goal.invariant-loop-order
invariant-loop-order l = Judged l.before (all_fit l.stage l.before (drop l.order-index l.orders)) (is_of_form l.orders)
