-- An order that is refused isn't accepted, and leaves the disk as it is.
use Rattle.std.proofs.Common.{◌≡◌, ◌⊎◌, inl, inr, ℕ, ◌+◌, ℤ, pos, Bool, true, false, ◌&&◌, ◌||◌, List, [], ◌∷◌, ◌++◌, length, drop, Option, Some, None, refl, sym, ap, subst, ◌∙◌, arith, if◌then◌else◌}
use Rattle.std.specs.Prelude.{⊤, not, nat_lt, nat_le, ◌==◌}
use Rattle.std.proofs.lemmas.Bool.{eqb-true}
use Rattle.std.proofs.lemmas.Bool.Decides.{nat_tests}
use Rattle.wire_prims.specs.Fields.{u16_at, i32_at, i64_at}
use Rattle.wire_prims.specs.declared.fault.Bad.{Bad}
use Rattle.sbe_client.specs.Reading.{Opens, HasVariable, ReadsIngress, first_fault_ingress, first_of, checks, allows, least_block, variables_of, has_variables, block_end, variable_at, variable_end}
use Rattle.sbe_client.specs.declared.check.Direction.TheVariants.{ToCluster}
use Rattle.sbe_client.specs.declared.ingress.Ingress.{Ingress}
use Rattle.sbe_client.specs.declared.ingress.Ingress.TheVariants as ingress
use Rattle.sbe_events.specs.Spelling.{term_of}
use Rattle.sbe_events.specs.declared.event.Event.{Event}
use Rattle.sbe_events.specs.declared.event.Event.TheVariants as event
use Rattle.cl_base.specs.Disk.{DiskState}
use Rattle.member_disk.specs.Kept.{Kept, Held as DiskHeld}
use Rattle.member_module.specs.Held.{Held as ModuleHeld}
use Rattle.ingress.specs.declared.outcome.Outcome.{Outcome}
use Rattle.ingress.specs.declared.outcome.Outcome.TheVariants as outcome
use Rattle.ingress.specs.declared.decision.Decided.{Decided}
use Rattle.ingress.specs.declared.decision.Decided.TheVariants as decisions
use Rattle.ingress.specs.declared.view.View.{View}
use Rattle.ingress.specs.Outcomes.{Rows, first_row, leading_rows, action_rows, room_rows}
use Rattle.ingress.specs.Decisions.{Admits, unless, end_of, admitted, rows_before, decided, decided_action}
use Rattle.consensus_core.specs.declared.values.Values.{Values}
use Rattle.consensus_core.proofs.Fitting.{choice}
use Rattle.consensus_agent.specs.Accepted.{IsDecided, IsDone, Leaves, TookAction, TookClient}

-- ---- bytes without a fault are a message

-- no check fails
abbrev AllPass : List (Bool × Bad) → Type 0
AllPass [] = ⊤
AllPass (c ∷ cs) = (c.0 ≡ false) × AllPass cs

peel : (b : Bool) (x : Bad) (o : Option Bad) → (if b then Some x else o) ≡ None → (b ≡ false) × (o ≡ None)
peel true x o h = absurd (cc)
peel false x o h = (refl, h)

all_pass : (cs : List (Bool × Bad)) → first_of cs ≡ None → AllPass cs
all_pass [] h = tt
all_pass (c ∷ cs) h = let p = peel c.0 c.1 (first_of cs) h in (p.0, all_pass cs p.1)

both : (a b : Bool) → (a && b) ≡ true → (a ≡ true) × (b ≡ true)
both true b e = (refl, e)
both false b e = absurd (cc)

either : (a b : Bool) → (a || b) ≡ true → (a ≡ true) ⊎ (b ≡ true)
either true b e = inl refl
either false b e = inr e

true_of : (b : Bool) → not b ≡ false → b ≡ true
true_of true h = refl
true_of false h = absurd (cc)

-- what bytes without a fault are
record IsSent (bytes : List ℕ) : Type 0 where
  pub opens : Opens (u16_at 2 bytes) (least_block (u16_at 2 bytes)) bytes
  pub allowed : allows ToCluster (u16_at 2 bytes) ≡ true
  pub variables : has_variables (variables_of (u16_at 2 bytes)) (block_end bytes) bytes ≡ true

sent : (bytes : List ℕ) → first_fault_ingress bytes ≡ None → IsSent bytes
unfolding first_fault_ingress
sent bytes none =
    let p : AllPass (checks ToCluster bytes) = all_pass (checks ToCluster bytes) none in
    let header : nat_lt (length bytes) 8 ≡ false = p.0 in
    let block : nat_lt (u16_at 0 bytes) (least_block (u16_at 2 bytes)) ≡ false = p.1.1.1.0 in
    let all : nat_lt (length bytes) (block_end bytes) ≡ false = p.1.1.1.1.0 in
    record {
      opens = record {
        header_there = grind (arith, nat_tests, header);
        schema = eqb-true _ _ (true_of _ p.1.0);
        template_is = refl;
        long_enough = grind (arith, nat_tests, block);
        block_there = grind (arith, nat_tests, all);
      };
      allowed = true_of _ p.1.1.0;
      variables = true_of _ p.1.1.1.1.1.0;
    }

opens_as : (bytes : List ℕ) (t : ℕ) → IsSent bytes → u16_at 2 bytes ≡ t → Opens t (least_block t) bytes
opens_as bytes t s is = subst (λ n. Opens n (least_block n) bytes) is s.opens

variable : (at : ℕ) (bytes : List ℕ) (n : ℕ) → (nat_le (at + 4) (length bytes) && nat_le (variable_end at bytes) (length bytes) && has_variables n (variable_end at bytes) bytes) ≡ true → HasVariable at bytes × (has_variables n (variable_end at bytes) bytes ≡ true)
variable at bytes n h =
    let a = both (nat_le (at + 4) (length bytes) && nat_le (variable_end at bytes) (length bytes)) (has_variables n (variable_end at bytes) bytes) h in
    let b = both (nat_le (at + 4) (length bytes)) (nat_le (variable_end at bytes) (length bytes)) a.0 in
    let first : nat_le (at + 4) (length bytes) ≡ true = b.0 in
    let second : nat_le (variable_end at bytes) (length bytes) ≡ true = b.1 in
    (record { length_there = grind (arith, nat_tests, first); all_there = grind (arith, nat_tests, second) }, a.1)

reads_connect : (bytes : List ℕ) → IsSent bytes → u16_at 2 bytes ≡ 3 → (m : Ingress) × ReadsIngress bytes m
reads_connect bytes s is =
    let v = subst (λ n. has_variables (variables_of n) (block_end bytes) bytes ≡ true) is s.variables in
    let first = variable (block_end bytes) bytes 1 v in
    let second = variable (variable_end (block_end bytes) bytes) bytes 0 first.1 in
    (ingress.Connect (i64_at 8 bytes) (i32_at 16 bytes) (variable_at (block_end bytes) bytes), (opens_as bytes 3 s is, refl, refl, first.0, refl, second.0))

reads_message : (bytes : List ℕ) → IsSent bytes → u16_at 2 bytes ≡ 1 → (m : Ingress) × ReadsIngress bytes m
reads_message bytes s is = (ingress.Message (i64_at 8 bytes) (i64_at 16 bytes) (drop (block_end bytes) bytes), (opens_as bytes 1 s is, refl, refl, refl))

reads_close : (bytes : List ℕ) → IsSent bytes → u16_at 2 bytes ≡ 4 → (m : Ingress) × ReadsIngress bytes m
reads_close bytes s is = (ingress.Close (i64_at 8 bytes) (i64_at 16 bytes), (opens_as bytes 4 s is, refl, refl))

reads_keep_alive : (bytes : List ℕ) → IsSent bytes → u16_at 2 bytes ≡ 5 → (m : Ingress) × ReadsIngress bytes m
reads_keep_alive bytes s is = (ingress.KeepAlive (i64_at 8 bytes) (i64_at 16 bytes), (opens_as bytes 5 s is, refl, refl))

reads : (bytes : List ℕ) → first_fault_ingress bytes ≡ None → (m : Ingress) × ReadsIngress bytes m
reads bytes none =
    let s = sent bytes none in
    elim (either ((u16_at 2 bytes == 1 || u16_at 2 bytes == 3) || u16_at 2 bytes == 4) (u16_at 2 bytes == 5) s.allowed) [
      | inl few ↦ elim (either (u16_at 2 bytes == 1 || u16_at 2 bytes == 3) (u16_at 2 bytes == 4) few) [
        | inl less ↦ elim (either (u16_at 2 bytes == 1) (u16_at 2 bytes == 3) less) [
          | inl one ↦ reads_message bytes s (eqb-true (u16_at 2 bytes) 1 one)
          | inr three ↦ reads_connect bytes s (eqb-true (u16_at 2 bytes) 3 three)
        ]
        | inr four ↦ reads_close bytes s (eqb-true (u16_at 2 bytes) 4 four)
      ]
      | inr five ↦ reads_keep_alive bytes s (eqb-true (u16_at 2 bytes) 5 five)
    ]

-- ---- what refuses

abbrev pub is_refusal : Outcome → Bool
is_refusal (outcome.Accepted i) = false
is_refusal _ = true

abbrev AllRefuse : Rows → Type 0
AllRefuse [] = ⊤
AllRefuse (r ∷ rs) = (is_refusal r.1 ≡ true) × AllRefuse rs

abbrev refusal_in : Decided → Bool
refusal_in (decisions.Refuse o) = is_refusal o
refusal_in (decisions.Alive session) = true
refusal_in (decisions.Append e) = true

refusal_unless : (rows : Rows) (d : Decided) → AllRefuse rows → refusal_in d ≡ true → refusal_in (unless (first_row rows) d) ≡ true
refusal_unless [] d a h = h
refusal_unless (r ∷ rs) d a h = choice (λ z. refusal_in (unless z d) ≡ true) r.0 (Some r.1) (first_row rs) (λ g. a.0) (λ g. refusal_unless rs d a.1 h)

room_refuses : (v : View) (e : Event) → refusal_in (admitted v e) ≡ true
room_refuses v e = refusal_unless (room_rows v (end_of v e)) (decisions.Append e) (refl, (refl, tt)) refl

message_refuses : (v : View) (now : ℕ) (m : Ingress) → refusal_in (decided v now m) ≡ true
message_refuses v now (ingress.Connect corr stream channel) = refusal_unless (rows_before v (ingress.Connect corr stream channel)) _ (refl, (refl, (refl, tt))) (room_refuses v (event.Opened v.term corr v.sessions.now.table.next_id (pos now) stream channel))
message_refuses v now (ingress.Message term session payload) = refusal_unless (rows_before v (ingress.Message term session payload)) _ (refl, (refl, (refl, (refl, tt)))) (room_refuses v (event.Message v.term session (pos now) payload))
message_refuses v now (ingress.Close term session) = refusal_unless (rows_before v (ingress.Close term session)) _ (refl, (refl, (refl, tt))) (room_refuses v (event.Closed v.term session (pos now) 0))
message_refuses v now (ingress.KeepAlive term session) = refusal_unless (rows_before v (ingress.KeepAlive term session)) _ (refl, (refl, (refl, tt))) refl

bytes_refuse : (v : View) (bytes : List ℕ) (now : ℕ) (d : Decided) → IsDecided v bytes now d → refusal_in d ≡ true
bytes_refuse v bytes now d by = at (first_fault_ingress bytes) refl
  where
    at : (o : Option Bad) → first_fault_ingress bytes ≡ o → refusal_in d ≡ true
    at (Some b) h = ap refusal_in (by.bad b h)
    at None h = let m = reads bytes h in ap refusal_in (by.read m.0 m.1) ∙ message_refuses v now m.0

action_refuses : (v : View) (actions now : ℕ) → refusal_in (decided_action v actions now) ≡ true
action_refuses v actions now = refusal_unless (leading_rows v ++ action_rows actions) _ (refl, (refl, tt)) (room_refuses v (event.Snapshot v.term (pos v.place) (pos now)))

-- ---- what an outcome says of the disk

-- what is appended is of this term
abbrev OfTerm : ℤ → Decided → Type 0
OfTerm term (decisions.Append e) = term_of e ≡ term
OfTerm term _ = ⊤

of_admitted : (w : View) (actions now : ℕ) (term : ℤ) (d : Decided) → w.term ≡ term → Admits w actions now d → OfTerm term d
of_admitted w actions now term (decisions.Refuse o) is admits = tt
of_admitted w actions now term (decisions.Alive session) is admits = tt
of_admitted w actions now term (decisions.Append e) is admits = admits.term ∙ is

done_leaves : (d : Decided) (now : ℕ) (o : Outcome) (term : ℤ) (a b : Kept) (m n : ModuleHeld) → refusal_in d ≡ true → OfTerm term d → IsDone d now o a b m n → Leaves o term a b
done_leaves (decisions.Refuse refusal) now o term a b m n refuses of done = subst (λ z. Leaves z term a b) (sym done.0) (refused refusal refuses)
  where
    refused : (z : Outcome) → is_refusal z ≡ true → Leaves z term a b
    refused (outcome.Accepted i) h = absurd (cc)
    refused _ h = done.1
done_leaves (decisions.Alive session) now o term a b m n refuses of done = subst (λ z. Leaves z term a b) (sym done.0) done.1
done_leaves (decisions.Append e) now o term a b m n refuses of done = subst (λ z. Leaves z term a b) (sym done.0) (record { event = e; of_term = of; appended = done.1 })

module _ {D : Type 0} (state : D → DiskState) (is_told is_honest : D → Bool) where
  pub client_leaves : (v : Values) (bytes : List ℕ) (now : ℕ) (o : Outcome) (a b : DiskHeld D) (m n : ModuleHeld) → TookClient state is_told is_honest v bytes now o a b m n → Leaves o v.election.term a.kept b.kept
  client_leaves v bytes now o a b m n took =
      done_leaves took.decision now o v.election.term a.kept b.kept m n (bytes_refuse took.view bytes now took.decision took.by) (of_admitted took.view 0 now v.election.term took.decision took.is.term (took.by.admits 0)) took.done

  pub action_leaves : (v : Values) (now : ℕ) (o : Outcome) (a b : DiskHeld D) (m n : ModuleHeld) → TookAction state is_told is_honest v now o a b m n → Leaves o v.election.term a.kept b.kept
  action_leaves v now o a b m n took =
      done_leaves took.decision now o v.election.term a.kept b.kept m n (ap refusal_in took.by.is ∙ action_refuses took.view _ now) (of_admitted took.view _ now v.election.term took.decision took.is.term took.by.admits) took.done
