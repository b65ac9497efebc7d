-- What an event that a client asked for has of the client's bytes.
use Rattle.std.proofs.Common.{◌≡◌, ℕ, ◌+◌, ◌≤◌, ℤ, pos, Bool, true, false, ◌&&◌, ◌||◌, not, List, [], ◌++◌, length, drop, Option, Some, None, refl, sym, ap, ◌∙◌, subst, arith, if◌then◌else◌, inl, inr, ◌⊎◌}
use Rattle.std.specs.Prelude.{nat_lt, nat_le, ◌==◌}
use Rattle.std.proofs.lemmas.Bool.{ltb-false, leb-true, eqb-true, and_parts}
use Rattle.std.proofs.lemmas.Bool.Decides.{nat_tests}
use Rattle.wire_prims.specs.Fields.{u16_at, u32_at, i32_at, i64_at, IsBytes, bytes_take, bytes_drop}
use Rattle.wire_prims.specs.declared.fault.Bad.{Bad}
use Rattle.sbe_client.specs.Reading.{HasVariable, Opens, ReadsIngress, allows, block_end, first_fault_ingress, has_variables, least_block, variable_at, variable_end, variables_of}
use Rattle.sbe_client.specs.declared.check.Direction.TheVariants.{ToCluster}
use Rattle.sbe_client.specs.declared.ingress.Ingress.{Ingress}
use Rattle.sbe_client.specs.declared.ingress.Ingress.TheVariants as ingress
use Rattle.sbe_events.specs.Spelling.{content_of}
use Rattle.sbe_events.specs.declared.event.Event.{Event}
use Rattle.sbe_events.specs.declared.event.Event.TheVariants as events
use Rattle.ingress.specs.declared.outcome.Outcome.{Outcome}
use Rattle.ingress.specs.declared.outcome.Outcome.TheVariants as outcome
use Rattle.ingress.specs.declared.decision.Decided.{Decided}
use Rattle.ingress.specs.declared.decision.Decided.TheVariants as decisions
use Rattle.ingress.specs.declared.view.View.{View}
use Rattle.ingress.specs.Outcomes.{first_row, leading_rows, action_rows, room_rows}
use Rattle.ingress.specs.Decisions.{admitted, decided, decided_action, end_of, passed_on, rows_before, unless}
use Rattle.consensus_agent.specs.Accepted.{IsDecided}

-- ---- bytes without a fault are a message

-- where no check fails, each test is false
one-check : (b : Bool) (x : Bad) (rest : Option Bad) → (if b then Some x else rest) ≡ None → (b ≡ false) × (rest ≡ None)
one-check true x rest e = absurd (cc)
one-check false x rest e = (refl, e)

is-allowed : (b : Bool) → not b ≡ false → b ≡ true
is-allowed true e = refl
is-allowed false e = absurd (cc)

either : (a b : Bool) → (a || b) ≡ true → (a ≡ true) ⊎ (b ≡ true)
either true b e = inl refl
either false b e = inr e

-- no check fails
record IsFree (bytes : List ℕ) : Type 0 where
  pub header : 8 ≤ length bytes
  pub schema : u16_at 4 bytes ≡ 111
  pub template : allows ToCluster (u16_at 2 bytes) ≡ true
  pub block : least_block (u16_at 2 bytes) ≤ u16_at 0 bytes
  pub whole : block_end bytes ≤ length bytes
  pub variables : has_variables (variables_of (u16_at 2 bytes)) (block_end bytes) bytes ≡ true

free : (bytes : List ℕ) → first_fault_ingress bytes ≡ None → IsFree bytes
unfolding first_fault_ingress
free bytes none =
    let a = one-check (nat_lt (length bytes) 8) _ _ none in
    let b = one-check (not (u16_at 4 bytes == 111)) _ _ a.1 in
    let c = one-check (not (allows ToCluster (u16_at 2 bytes))) _ _ b.1 in
    let d = one-check (nat_lt (u16_at 0 bytes) (least_block (u16_at 2 bytes))) _ _ c.1 in
    let e = one-check (nat_lt (length bytes) (block_end bytes)) _ _ d.1 in
    let f = one-check (not (has_variables (variables_of (u16_at 2 bytes)) (block_end bytes) bytes)) _ _ e.1 in
    record {
      header = ltb-false (length bytes) 8 a.0;
      schema = eqb-true (u16_at 4 bytes) 111 (is-allowed _ b.0);
      template = is-allowed _ c.0;
      block = ltb-false (u16_at 0 bytes) (least_block (u16_at 2 bytes)) d.0;
      whole = ltb-false (length bytes) (block_end bytes) e.0;
      variables = is-allowed _ f.0;
    }

opens : (t least : ℕ) (bytes : List ℕ) → IsFree bytes → u16_at 2 bytes ≡ t → least_block t ≡ least → Opens t least bytes
opens t least bytes is here much = record {
  header_there = is.header;
  schema = is.schema;
  template_is = here;
  long_enough = subst (λ (n : ℕ). n ≤ u16_at 0 bytes) (ap least_block here ∙ much) is.block;
  block_there = is.whole;
}

-- the variable fields of a connect
two-there : (at : ℕ) (bytes : List ℕ) → has_variables 2 at bytes ≡ true → HasVariable at bytes × HasVariable (variable_end at bytes) bytes
two-there at bytes h =
    let a = and_parts (nat_le (at + 4) (length bytes) && nat_le (variable_end at bytes) (length bytes)) (has_variables 1 (variable_end at bytes) bytes) h in
    let b = and_parts (nat_le (at + 4) (length bytes)) (nat_le (variable_end at bytes) (length bytes)) a.0 in
    let next = variable_end at bytes in
    let c = and_parts (nat_le (next + 4) (length bytes) && nat_le (variable_end next bytes) (length bytes)) (has_variables 0 (variable_end next bytes) bytes) a.1 in
    let d = and_parts (nat_le (next + 4) (length bytes)) (nat_le (variable_end next bytes) (length bytes)) c.0 in (
      record { length_there = leb-true (at + 4) (length bytes) b.0; all_there = leb-true (variable_end at bytes) (length bytes) b.1 },
      record { length_there = leb-true (next + 4) (length bytes) d.0; all_there = leb-true (variable_end next bytes) (length bytes) d.1 },
    )

abbrev Reads : List ℕ → Type 0
Reads bytes = (m : Ingress) × ReadsIngress bytes m

by-template : (bytes : List ℕ) → IsFree bytes → (u16_at 2 bytes ≡ 1) ⊎ ((u16_at 2 bytes ≡ 3) ⊎ ((u16_at 2 bytes ≡ 4) ⊎ (u16_at 2 bytes ≡ 5))) → Reads bytes
by-template bytes is (inl t) = (ingress.Message (i64_at 8 bytes) (i64_at 16 bytes) (drop (block_end bytes) bytes), (opens 1 24 bytes is t refl, refl, refl, refl))
by-template bytes is (inr (inl t)) =
    let there = two-there (block_end bytes) bytes (ap (λ (n : ℕ). has_variables (variables_of n) (block_end bytes) bytes) (sym t) ∙ is.variables) in
    (ingress.Connect (i64_at 8 bytes) (i32_at 16 bytes) (variable_at (block_end bytes) bytes), (opens 3 16 bytes is t refl, refl, refl, there.0, refl, there.1))
by-template bytes is (inr (inr (inl t))) = (ingress.Close (i64_at 8 bytes) (i64_at 16 bytes), (opens 4 16 bytes is t refl, refl, refl))
by-template bytes is (inr (inr (inr t))) = (ingress.KeepAlive (i64_at 8 bytes) (i64_at 16 bytes), (opens 5 16 bytes is t refl, refl, refl))

which : (t : ℕ) → allows ToCluster t ≡ true → (t ≡ 1) ⊎ ((t ≡ 3) ⊎ ((t ≡ 4) ⊎ (t ≡ 5)))
which t h = grind (arith, nat_tests)

pub reads : (bytes : List ℕ) → first_fault_ingress bytes ≡ None → Reads bytes
reads bytes none = let is = free bytes none in by-template bytes is (which (u16_at 2 bytes) is.template)

-- ---- what is decided on a message

append-is : (e f : Event) → decisions.Append e ≡ decisions.Append f → e ≡ f
append-is e f same = cc

not-refused : (o : Outcome) (e : Event) → decisions.Append e ≡ decisions.Refuse o → ⊥
not-refused o e same = cc

not-alive : (session : ℤ) (e : Event) → decisions.Append e ≡ decisions.Alive session → ⊥
not-alive session e same = cc

passed : (o : Option Outcome) (d : Decided) (e : Event) → decisions.Append e ≡ unless o d → decisions.Append e ≡ d
passed (Some o) d e same = absurd (not-refused o e same)
passed None d e same = same

the-event : (w : View) (f e : Event) → decisions.Append e ≡ admitted w f → e ≡ f
the-event w f e same = append-is e f (passed (first_row (room_rows w (end_of w f))) (decisions.Append f) e same)

none-bytes : IsBytes []
none-bytes i = omega arith

same-content : (e f : Event) → e ≡ f → IsBytes (content_of f) → IsBytes (content_of e)
same-content e f same fit = subst (λ (x : Event). IsBytes (content_of x)) (sym same) fit

of-message : (w : View) (now : ℕ) (bytes : List ℕ) (m : Ingress) (e : Event) → IsBytes bytes → ReadsIngress bytes m → decisions.Append e ≡ decided w now m → IsBytes (content_of e)
of-message w now bytes (ingress.Connect corr stream channel) e fit read same =
    let f = events.Opened w.term corr w.sessions.now.table.next_id (pos now) stream channel in
    let is = the-event w f e (passed (first_row (rows_before w (ingress.Connect corr stream channel))) (passed_on w now (ingress.Connect corr stream channel)) e same) in
    same-content e f is (subst IsBytes (sym read.4) (bytes_take (u32_at (block_end bytes) bytes) (drop (block_end bytes + 4) bytes) (bytes_drop (block_end bytes + 4) bytes fit)))
of-message w now bytes (ingress.Message term session payload) e fit read same =
    let f = events.Message w.term session (pos now) payload in
    let is = the-event w f e (passed (first_row (rows_before w (ingress.Message term session payload))) (passed_on w now (ingress.Message term session payload)) e same) in
    same-content e f is (subst IsBytes (sym read.3) (bytes_drop (block_end bytes) bytes fit))
of-message w now bytes (ingress.Close term session) e fit read same =
    let f = events.Closed w.term session (pos now) 0 in
    let is = the-event w f e (passed (first_row (rows_before w (ingress.Close term session))) (passed_on w now (ingress.Close term session)) e same) in
    same-content e f is none-bytes
of-message w now bytes (ingress.KeepAlive term session) e fit read same =
    absurd (not-alive session e (passed (first_row (rows_before w (ingress.KeepAlive term session))) (decisions.Alive session) e same))

-- the payload or the channel of an event that a client asked for is bytes
pub client-content : (w : View) (bytes : List ℕ) (now : ℕ) (e : Event) → IsBytes bytes → IsDecided w bytes now (decisions.Append e) → IsBytes (content_of e)
client-content w bytes now e fit is = at (first_fault_ingress bytes) refl
  where
    at : (o : Option Bad) → first_fault_ingress bytes ≡ o → IsBytes (content_of e)
    at (Some b) found = absurd (not-refused (outcome.Bad b) e (is.bad b found))
    at None found = let m = reads bytes found in of-message w now bytes m.0 e fit m.1 (is.read m.0 m.1)

-- an action's event has none
pub action-content : (w : View) (actions now : ℕ) (e : Event) → decisions.Append e ≡ decided_action w actions now → IsBytes (content_of e)
action-content w actions now e same =
    let f = events.Snapshot w.term (pos w.place) (pos now) in
    let is = the-event w f e (passed (first_row (leading_rows w ++ action_rows actions)) (admitted w f) e same) in
    same-content e f is none-bytes
