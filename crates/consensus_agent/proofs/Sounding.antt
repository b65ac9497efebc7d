-- What is true of a member that goes on stays true.
use Rattle.std.proofs.Common.{◌≡◌, ℕ, zero, suc, ◌+◌, ◌-◌, ◌<◌, ◌≤◌, ◌^◌, ℤ, pos, ◌≤ℤ◌, ◌<ℤ◌, Bool, true, false, ◌||◌, List, [], ◌∷◌, ◌++◌, length, take, drop, Option, refl, sym, ap, subst, ◌∙◌, arith}
use Rattle.std.specs.Prelude.{IsTrue, All}
use Rattle.std.proofs.lemmas.Int.{ints}
use Rattle.std.proofs.lemmas.List.Elements.{All-head, All-tail}
use Rattle.entry_log.specs.Log.{Log, end_after}
use Rattle.entry_log.specs.Places.{end_after-past}
use Rattle.entry_log.specs.Shape.{Shape, shape_of, entry_shape, end_from, last_term_of, last_term_from}
use Rattle.log_segment.specs.Held.{IsRanged, AreRanged}
use Rattle.sbe_consensus.specs.Spelling.{HasSpelling as IsPacket}
use Rattle.sbe_consensus.specs.declared.packet.Packet.{Packet}
use Rattle.sbe_events.specs.Spelling.{HasSpelling as IsEvent, term_of}
use Rattle.sbe_events.specs.declared.event.Event.{Event}
use Rattle.member_disk.specs.Kept.{Kept}
use Rattle.member_module.specs.Held.{Held as ModuleHeld}
use Rattle.consensus_core.specs.declared.change.Change.{Change}
use Rattle.consensus_core.specs.declared.change.Change.TheVariants as changes
use Rattle.consensus_core.specs.declared.row.Row.{Row}
use Rattle.consensus_core.specs.declared.values.Values.{Values}
use Rattle.election.specs.declared.member.Election.{Election}
use Rattle.consensus_core.specs.Fit.{IsFit, IsTerm, started, Held as CoreHeld}
use Rattle.consensus_core.specs.Reign.{does_duty}
use Rattle.consensus_core.specs.Sendable.{receives}
use Rattle.consensus_core.specs.Standing.{Standing, CanMake, changed_shape}
use Rattle.consensus_core.proofs.Fitting.{receives_fit, duty_fits}
use Rattle.consensus_core.proofs.Standing.{packets_fit, duties_fit, starts_fit}
use Rattle.consensus_agent.specs.Rows.{IsKept, Made}
use Rattle.consensus_agent.specs.Sound.{NamesVote, HasAhead, IsSound, CanChange, CanRun, changed_node}
use Rattle.consensus_agent.proofs.Ahead.{ahead_taken}
use Rattle.consensus_agent.proofs.Commits.{receives_moves, duty_moves, rises_of}
use Rattle.consensus_agent.proofs.Entries.{length_shape}

-- ---- the log is short

few_from : (p : ℕ) (xs : Shape) → All IsRanged xs → p + length xs ≤ end_from p xs
few_from p [] all = omega arith
few_from p (x ∷ xs) all =
    let x_is : IsRanged x = All-head IsRanged x xs all in
    let some : 0 < x.len = (let a = x_is.least in omega (arith, a)) in
    let a = end_after-past p x.len some in
    let b = few_from (end_after p x.len) xs (All-tail IsRanged x xs all) in
    omega (arith, a, b)

-- a log has no more entries than bytes
pub few : (xs : Shape) → AreRanged xs → length xs ≤ 16777216
few xs are = let a = few_from 0 xs are.each in let b = are.room in omega (arith, a, b)

-- ---- nothing that counts changed

pub kept_sound : (v w : Values) (k l : Kept) (a b : Bool) (m n : ModuleHeld) → w ≡ v → l ≡ k → b ≡ a → n.consumed ≡ m.consumed → length n.ahead.entries ≡ length m.ahead.entries → IsSound v k a m → IsSound w l b n
kept_sound v w k l a b m n vs ks flags taken many s = record {
  disk = subst (λ x. IsTrue x) (sym flags) s.disk;
  standing = subst (λ x. Standing x (shape_of l.log)) (sym vs) (subst (λ (x : Kept). Standing v (shape_of x.log)) (sym ks) s.standing);
  fit = subst (λ (x : Values). IsFit x.election) (sym vs) s.fit;
  vote = subst (λ x. NamesVote x l.node) (sym vs) (subst (λ (x : Kept). NamesVote v x.node) (sym ks) s.vote);
  consumed = (let commit : w.rest.commit ≡ v.rest.commit = ap (λ (x : Values). x.rest.commit) vs in let c = s.consumed in omega (arith, commit, c, taken));
  ahead = (let log : length l.log ≡ length k.log = ap (λ (x : Kept). length x.log) ks in let c = s.ahead in omega (arith, log, c, taken, many));
}

-- ---- a row can be run

-- what a row asks of the disk, by the disk's own values
change_of : (c : Change) (v w : Values) (k : Kept) (first : ℕ) → CanMake c v w (shape_of k.log) → NamesVote v k.node → first ≤ w.rest.commit → CanChange c first k × NamesVote w (changed_node c k.node)
change_of changes.Nothing v w k first can vote low = (tt, record { candidate = can.candidate ∙ vote.candidate; voted = can.voted ∙ vote.voted })
change_of (changes.Raise term voted) v w k first can vote low =
    (record { above = subst (λ t. t <ℤ term) vote.candidate can.above; high = can.high; member = can.member }, record { candidate = can.candidate; voted = can.choice })
change_of (changes.Append entries) v w k first can vote low = (can.1, record { candidate = can.0.candidate ∙ vote.candidate; voted = can.0.voted ∙ vote.voted })
change_of (changes.Cut n) v w k first can vote low =
    let few = can.2 in
    let kept = can.1 in
    let many = length_shape k.log in
    ((omega (arith, low, kept), omega (arith, few, many)), record { candidate = can.0.candidate ∙ vote.candidate; voted = can.0.voted ∙ vote.voted })

run_of : (row : Row) (v : Values) (k : Kept) (a : Bool) (m : ModuleHeld) → IsSound v k a m → CanMake row.change v row.values (shape_of k.log) → Standing row.values (changed_shape row.change (shape_of k.log)) → IsFit row.values.election
    → v.rest.commit ≤ row.values.rest.commit → CanRun row.change row.values k m.consumed
run_of row v k a m s can standing fit rises =
    let low : m.consumed ≤ row.values.rest.commit = (let c = s.consumed in omega (arith, c, rises)) in
    let c = change_of row.change v row.values k m.consumed can s.vote low in
    record { can = c.0; standing = standing; fit = fit; vote = c.1; low = low }

-- a packet's
pub packet_runs : (v : Values) (k : Kept) (a : Bool) (m : ModuleHeld) (p : Packet) (now : ℕ) → IsPacket p → IsSound v k a m
    → CanRun (receives v (shape_of k.log) p now).change (receives v (shape_of k.log) p now).values k m.consumed
packet_runs v k a m p now spelled s =
    let xs = shape_of k.log in
    let fits = packets_fit v xs p now s.standing s.fit spelled in
    run_of (receives v xs p now) v k a m s fits.0 fits.1 (receives_fit v xs p now spelled s.fit).fit (rises_of v.rest _ (receives v xs p now) (receives_moves v xs p now))

-- a duty's
pub duty_runs : (v : Values) (k : Kept) (a : Bool) (m : ModuleHeld) (due : List Event) (now : ℕ) → now ≤ 2 ^ 60 → All IsEvent due → All (λ e. term_of e ≡ v.election.term) due → IsSound v k a m
    → CanRun (does_duty v (shape_of k.log) due now).change (does_duty v (shape_of k.log) due now).values k m.consumed
duty_runs v k a m due now early spelled of s =
    let xs = shape_of k.log in
    let fits = duties_fit v xs due now s.standing s.fit early spelled of in
    run_of (does_duty v xs due now) v k a m s fits.0 fits.1 (duty_fits v xs due now s.fit).fit (rises_of v.rest _ (does_duty v xs due now) (duty_moves v xs due now))

-- ---- what was run stands

-- the log and the node after a change
shape_append : (xs ys : Log) → shape_of (xs ++ ys) ≡ shape_of xs ++ shape_of ys
shape_append [] ys = refl
shape_append (x ∷ xs) ys = ap (λ z. entry_shape x ∷ z) (shape_append xs ys)

shape_take : (n : ℕ) (xs : Log) → shape_of (take n xs) ≡ take n (shape_of xs)
shape_take zero xs = refl
shape_take (suc n) [] = refl
shape_take (suc n) (x ∷ xs) = ap (λ z. entry_shape x ∷ z) (shape_take n xs)

shape_after : (c : Change) (a b : Kept) → Made c a b → shape_of b.log ≡ changed_shape c (shape_of a.log)
shape_after changes.Nothing a b made = ap shape_of made.log
shape_after (changes.Raise term voted) a b made = ap shape_of made.log
shape_after (changes.Append entries) a b made = ap shape_of made.log ∙ shape_append a.log entries
shape_after (changes.Cut n) a b made = ap shape_of made.log ∙ shape_take n a.log

node_after : (c : Change) (a b : Kept) → Made c a b → b.node ≡ changed_node c a.node
node_after changes.Nothing a b made = made.node
node_after (changes.Raise term voted) a b made = made.node
node_after (changes.Append entries) a b made = made.node
node_after (changes.Cut n) a b made = made.node

-- the member goes on after its row
pub stands_again : (c : Change) (v : Values) (a b : Kept) (flag : Bool) (m n : ModuleHeld) → CanRun c v a m.consumed → Made c a b → IsTrue flag → n.consumed ≡ m.consumed → HasAhead n b.log → IsSound v b flag n
stands_again c v a b flag m n can made flagged taken ahead = record {
  disk = flagged;
  standing = subst (Standing v) (sym (shape_after c a b made)) can.standing;
  fit = can.fit;
  vote = subst (NamesVote v) (sym (node_after c a b made)) can.vote;
  consumed = (let z = can.low in omega (arith, z, taken));
  ahead = ahead;
}

-- ---- a phase's end

pub taken_sound : (v w : Values) (k l : Kept) (a b : Bool) (m n : ModuleHeld) → IsSound v k a m → w ≡ v → IsKept k.node k.log l → IsTrue b
    → n.consumed ≡ m.consumed + (v.rest.commit - m.consumed) → n.ahead.entries ≡ drop (v.rest.commit - m.consumed) m.ahead.entries → IsSound w l b n
taken_sound v w k l a b m n s same kept whole taken left =
    let low = s.consumed in
    let high = s.standing.commit in
    let many = length_shape k.log in
    let commit : w.rest.commit ≡ v.rest.commit = ap (λ (x : Values). x.rest.commit) same in
    record {
      disk = whole;
      standing = subst (λ x. Standing x (shape_of l.log)) (sym same) (subst (λ x. Standing v (shape_of x)) (sym kept.log) s.standing);
      fit = subst (λ (x : Values). IsFit x.election) (sym same) s.fit;
      vote = subst (λ x. NamesVote x l.node) (sym same) (subst (NamesVote v) (sym kept.node) s.vote);
      consumed = omega (arith, commit, low, taken);
      ahead = ahead_taken m n k.log l.log (v.rest.commit - m.consumed) s.ahead (omega (arith, low, high, many)) taken left kept.log;
    }

-- what is ahead of the module is short
pub short_ahead : (v : Values) (k : Kept) (a : Bool) (m : ModuleHeld) (xs : Shape) → IsSound v k a m → AreRanged xs → xs ≡ shape_of k.log → m.consumed + length m.ahead.entries < 2 ^ 62
short_ahead v k a m xs s are is =
    let n = few xs are in
    let many = length_shape k.log in
    let same : length xs ≡ length (shape_of k.log) = ap (λ (z : Shape). length z) is in
    let ahead = s.ahead in
    omega (arith, n, many, same, ahead)

-- ---- a start

started_fit : (id members : ℕ) (candidate : ℤ) (voted : Option ℕ) (commit : ℕ) → members ≤ 5 → id < members → IsTerm candidate → IsFit (started id members candidate voted commit).values.election
started_fit id members candidate voted commit few one term = record {
  members = few;
  id = one;
  candidate = term;
  term = record { low = omega (arith, ints); high = omega (arith, ints) };
  balloting = λ h. absurd (cc);
  reigning = λ h. absurd (cc);
}

pub mounted_sound : (c : CoreHeld) (id members : ℕ) (candidate : ℤ) (voted : Option ℕ) (base : ℕ) (k : Kept) (a : Bool) (m : ModuleHeld) → c ≡ started id members candidate voted base → candidate ≡ k.node.term → voted ≡ k.node.voted
    → members ≤ 5 → id < members → IsTerm candidate → IsTrue a → base ≤ length k.log → AreRanged (shape_of k.log) → m.consumed ≡ base → HasAhead m k.log → IsSound c.values k a m
mounted_sound c id members candidate voted base k a m is named chosen few one term whole within are taken ahead =
    let many = length_shape k.log in
    let values : c.values ≡ (started id members candidate voted base).values = ap (λ (x : CoreHeld). x.values) is in
    let election : c.values.election ≡ (started id members candidate voted base).values.election = ap (λ (x : CoreHeld). x.values.election) is in
    let commit : c.values.rest.commit ≡ base = ap (λ (x : CoreHeld). x.values.rest.commit) is in
    record {
      disk = whole;
      standing = subst (λ v. Standing v (shape_of k.log)) (sym values) (starts_fit id members candidate voted base (shape_of k.log) (omega (arith, many, within)) are.room);
      fit = subst IsFit (sym election) (started_fit id members candidate voted base few one term);
      vote = record { candidate = ap (λ (e : Election). e.candidate) election ∙ named; voted = ap (λ (e : Election). e.voted) election ∙ chosen };
      consumed = omega (arith, commit, taken);
      ahead = ahead;
    }

-- after its change, before its packets
pub made_stands : (c : Change) (v w : Values) (a b l : Kept) (n : ℕ) → CanRun c v a n → Made c a b → w ≡ v → l ≡ b → Standing w (shape_of l.log)
made_stands c v w a b l n can made same after =
    subst (λ z. Standing z (shape_of l.log)) (sym same) (subst (Standing v) (sym (ap (λ (x : Kept). shape_of x.log) after ∙ shape_after c a b made)) can.standing)

-- the commit is within the log's limit
pub bound_of : (v : Values) (xs : Shape) → Standing v xs → AreRanged xs → v.rest.commit ≤ 16777216
bound_of v xs s are = let a = few xs are in let b = s.commit in omega (arith, a, b)

pub sound_bound : (v : Values) (k : Kept) (a : Bool) (m : ModuleHeld) (xs : Shape) → IsSound v k a m → AreRanged xs → xs ≡ shape_of k.log → v.rest.commit ≤ 16777216
sound_bound v k a m xs s are is = bound_of v (shape_of k.log) s.standing (subst AreRanged is are)

last_low : (t : ℤ) (xs : Shape) → t ≤ℤ pos (2 ^ 62) → All IsRanged xs → last_term_from t xs ≤ℤ pos (2 ^ 62)
last_low t [] low all = low
last_low t (x ∷ xs) low all = let is : IsRanged x = All-head IsRanged x xs all in last_low x.term xs is.high (All-tail IsRanged x xs all)

-- no term is past its limit
pub term_low : (xs : Shape) → AreRanged xs → last_term_of xs ≤ℤ pos (2 ^ 62)
term_low xs are = last_low _ xs (omega (arith, ints)) are.each

-- a phase is over where it was, where the log was cut, or where the member became ready
pub over_of : (old mid new cuts ready : Bool) → mid ≡ (old || cuts) → new ≡ (mid || ready) → new ≡ (old || (cuts || ready))
over_of true mid new cuts ready a b = b ∙ ap (λ z. z || ready) a
over_of false mid new cuts ready a b = b ∙ ap (λ z. z || ready) a
