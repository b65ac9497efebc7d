-- Every list of steps keeps the invariant, and what follows from it.
use Rattle.std.proofs.Common.{◌≡◌, ◌⊎◌, inl, inr, ℕ, ◌<◌, true, false, not, ◌&&◌, List, [], ◌∷◌, length, refl, sym, ap, ◌∙◌, subst, arith, Some, None, Option, ℤ, ◌≤ℤ◌, ◌<ℤ◌, if◌then◌else◌}
use Rattle.std.specs.Prelude.{Contains, slice_get, nat_lt}
use Rattle.std.proofs.lemmas.Int.{ints}
use Rattle.std.proofs.lemmas.Bool.{cases_lt}
use Rattle.std.proofs.lemmas.Bool.Decides.{nat_tests}
use Rattle.std.proofs.lemmas.List.{get_or_past, length-replicate, get_or-replicate}
use Rattle.std.proofs.lemmas.Option.{slice_get_within, slice_get-get_or}
use Rattle.world.specs.World.{World, Raise, Client, client, Puts, Invalidates, member, put, are_of, does, comes, is_running, is_stopped, step, Step, Passes, Starts, Stops, Duty, Delivers, run, formatted}
use Rattle.consensus_core.specs.Member.{Member, Sent, Cut, stopped, starts}
use Rattle.consensus_core.specs.Reign.{entry_of}
use Rattle.sbe_events.specs.declared.event.Event.{Event}
use Rattle.world.proofs.Same.{duty_is, packet_is, client_is, due_of, passes}
use Rattle.consensus_core.specs.Sendable.{sender_of}
use Rattle.world.specs.Said.{says, Said, CanvassOf, RequestOf, VoteOf, AnnounceOf, AnswerOf, ReportOf, CommitOf, BatchOf}
use Rattle.entry_log.specs.Durable.{fresh}
use Rattle.consensus_core.specs.Fit.{has_term}
use Rattle.world.specs.Safe.{TermsHold, VotesHold, ReignsHold}
use Rattle.world.proofs.Kept.{Inv, MemberOk, PacketOk, SentOk, GoesOn, Grows, grows-put, keeps}
use Rattle.world.proofs.Effects.{owes-stop, if-cases, none_in, Known-stopped}
use Rattle.world.proofs.Rows.{does_duty-fine, receives-fine, client-fine, and_true}
use Rattle.world.proofs.Snaps.{puts-keeps, invalidates-keeps}

pub runs : (w : World) (m : ℕ) → is_running w m ≡ true → (m < length w.members) × ((member w m).up ≡ true)
runs w m h = let p = and_true (nat_lt m (length w.members)) (member w m).up h in (grind (arith, nat_tests, p.0), p.1)

does-keeps : (n : ℕ) (w : World) (m : ℕ) (due : List Event) (cut : Cut) → Inv n w → Inv n (does w m due cut)
does-keeps n w m due cut i =
    if-cases (Inv n) (is_running w m && are_of (member w m).values.election.term due) _ _
    (λ h.
    let p = and_true (is_running w m) (are_of (member w m).values.election.term due) h in
    let r = runs w m p.0 in
    subst (Inv n) (sym (duty_is w m due w.now p.1 cut)) (does_duty-fine n w m i r.0 r.1 (due_of (member w m) due) w.now cut))
    (λ h. i)

comes-keeps : (n : ℕ) (w : World) (s : Option Sent) (cut : Cut) → ((x : Sent) → s ≡ Some x → SentOk w x) → Inv n w → Inv n (comes w s cut)
comes-keeps n w None cut ok i = i
comes-keeps n w (Some s) cut ok i =
    if-cases (Inv n) (is_running w s.to) _ _
    (λ h.
    let r = runs w s.to h in
    subst (Inv n) (sym (packet_is w s.to s.packet w.now cut)) (receives-fine n w s.to i r.0 r.1 (passes w s.to s.packet) (sender_of s.packet) (says s.packet) w.now (ok s refl) cut))
    (λ h. i)

client-keeps : (n : ℕ) (w : World) (m : ℕ) (event : Event) (cut : Cut) → Inv n w → Inv n (client w m event cut)
client-keeps n w m event cut i =
    if-cases (Inv n) (is_running w m && are_of (member w m).values.election.term (event ∷ [])) _ _
    (λ h.
    let p = and_true (is_running w m) (are_of (member w m).values.election.term (event ∷ [])) h in
    let r = runs w m p.0 in
    subst (Inv n) (sym (client_is w m event p.1 cut)) (client-fine n w m i r.0 r.1 (member w m).values.election.state (entry_of event ∷ []) refl cut))
    (λ h. i)

pub starts-keeps : (n : ℕ) (w : World) (m services : ℕ) → Inv n w → Inv n (step w (Starts m services))
starts-keeps n w m services i =
    if-cases (Inv n) (is_stopped w m) _ _
    (λ h.
    let p = and_true (nat_lt m (length w.members)) (not (member w m).up) h in
    let l : m < length w.members = grind (arith, nat_tests, p.0) in
    let x = member w m in
    let y = starts m (length w.members) services x.durable in
    let on : GoesOn x y = inr (refl, (refl, λ h. refl)) in
    let w' = put w m y [] [] [] in
    let g : Grows w w' = grows-put w m y [] [] [] l on in
    let old : MemberOk w n m x = i.members m (subst (λ z. m < z) i.count l) in
    keeps n w m y [] [] [] i l (record {
      goes = on;
      mine = record {
        known = λ h. record { id = refl; members = i.count; candidate = refl; voted = refl };
        term = λ h. absurd (cc);
        voted = λ k e. let r = old.voted k e in (r.0, g.raised _ _ _ _ r.1);
        ballot = λ h. absurd (cc);
      };
      raises = λ r h. absurd (none_in r h);
      few_raises = λ r r' h h'. absurd (none_in r h);
      sent = λ s h. absurd (none_in s h);
      reigns = λ r h. absurd (none_in r h);
      new_reigns = λ r r' h h'. absurd (none_in r h);
      few_reigns = λ r r' h h'. absurd (none_in r h);
    }))
    (λ h. i)

pub stops-keeps : (n : ℕ) (w : World) (m : ℕ) → Inv n w → Inv n (step w (Stops m))
stops-keeps n w m i = if-cases (Inv n) (is_running w m) _ _ (λ h. owes-stop n w m i (runs w m h).0) (λ h. i)

pub at_place : (xs : List Sent) (k : ℕ) (x : Sent) → slice_get xs k ≡ Some x → Contains xs x
at_place xs k x e =
    let l : k < length xs = slice_get_within xs k x e in
    (k, l, some-same _ _ (sym (slice_get-get_or xs k x l) ∙ e))
  where
    some-same : (a b : Sent) → Some a ≡ Some b → a ≡ b
    some-same a b e = cc

-- the moment is in no fact on packets
timeless : (w : World) (now : ℕ) (from to : ℕ) (p : Said) → PacketOk w from to p → PacketOk (record w { now = now }) from to p
timeless w now from to (CanvassOf named c) o = tt
timeless w now from to (RequestOf c named) o = o
timeless w now from to (VoteOf c true own) o = o
timeless w now from to (VoteOf c false own) o = tt
timeless w now from to (AnnounceOf t) o = tt
timeless w now from to (AnswerOf t asked keep) o = tt
timeless w now from to (ReportOf t p) o = tt
timeless w now from to (CommitOf t c) o = tt
timeless w now from to (BatchOf t start entries) o = tt

pub step-keeps : (n : ℕ) (w : World) (s : Step) → Inv n w → Inv n (step w s)
step-keeps n w (Passes now) i = record {
  count = i.count;
  members = λ m h. let o = i.members m h in record { known = λ up. let k = o.known up in record { id = k.id; members = k.members; candidate = k.candidate; voted = k.voted }; term = o.term; voted = o.voted; ballot = λ b. let z = o.ballot b in record { own = z.own; votes = z.votes } };
  raises = λ r h. let o = i.raises r h in record { later = o.later; named = o.named };
  voters = i.voters;
  one_raise = i.one_raise;
  sent = λ s h. timeless w (if nat_lt w.now now then now else w.now) (sender_of s.packet) s.to (says s.packet) (i.sent s h);
  reigns = λ r h. let o = i.reigns r h in record { elected = o.elected; first = o.first; later = o.later };
  one_reign = i.one_reign;
}
step-keeps n w (Starts m services) i = starts-keeps n w m services i
step-keeps n w (Puts m k s cut) i = puts-keeps n w m k s cut i
step-keeps n w (Invalidates m services) i = invalidates-keeps n w m services i
step-keeps n w (Stops m) i = stops-keeps n w m i
step-keeps n w (Duty m due cut) i = does-keeps n w m due cut i
step-keeps n w (Client m event cut) i = client-keeps n w m event cut i
step-keeps n w (Delivers which cut) i = comes-keeps n w (slice_get w.sent which) cut (λ x e. i.sent x (at_place w.sent which x e)) i

pub run-keeps : (n : ℕ) (w : World) (steps : List Step) → Inv n w → Inv n (run w steps)
run-keeps n w [] i = i
run-keeps n w (s ∷ ss) i = run-keeps n (step w s) ss (step-keeps n w s i)

pub formatted-inv : (n : ℕ) → Inv n (formatted n)
formatted-inv n = record {
  count = length-replicate n (stopped fresh);
  members = λ m h. subst (MemberOk (formatted n) n m) (sym (get_or-replicate n m (stopped fresh) (stopped fresh) h)) (Known-stopped (formatted n) n m fresh (λ k e. absurd (cc)));
  raises = λ r h. absurd (none_in r h);
  voters = λ r h. absurd (none_in r h);
  one_raise = λ r r' h. absurd (none_in r h);
  sent = λ s h. absurd (none_in s h);
  reigns = λ r h. absurd (none_in r h);
  one_reign = λ r r' h. absurd (none_in r h);
}

pub inv : (n : ℕ) (steps : List Step) → Inv n (run (formatted n) steps)
inv n steps = run-keeps n (formatted n) steps (formatted-inv n)

pub terms-hold : (n : ℕ) (w : World) → Inv n w → TermsHold w
terms-hold n w i = record {
  term = λ m h. elim (cases_lt m n) [
    | inl lt ↦ (i.members m lt).term h
    | inr past ↦ absurd (let e : member w m ≡ stopped fresh = get_or_past w.members m (stopped fresh) (omega (arith, past, i.count)) in let f = ap (λ (x : Member). has_term x.values.election.state) e in cc)
  ];
}

no_later : (c now : ℤ) (P : Type 0) → (c <ℤ now) ⊎ ((c ≡ now) × P) → c ≤ℤ now
no_later c now P (inl a) = omega (arith, ints, a)
no_later c now P (inr e) = let f = e.0 in omega (arith, ints, f)

is_now : (c now : ℤ) (P : Type 0) → (c <ℤ now) ⊎ ((c ≡ now) × P) → c ≡ now → P
is_now c now P (inl a) e = absurd (omega (arith, ints, a, e))
is_now c now P (inr p) e = p.1

pub votes-hold : (n : ℕ) (w : World) → Inv n w → VotesHold w
votes-hold n w i = record {
  once = λ v c k k' log log' h h'. ap (λ (r : Raise). r.choice) (i.one_raise _ _ h h' refl refl);
  below = λ v c k log h. no_later _ _ _ (i.raises _ h).later;
  kept = λ v k log h. is_now _ _ _ (i.raises _ h).later refl;
  given = λ s c own h e. subst (PacketOk w (sender_of s.packet) s.to) e (i.sent s h);
}

pub reigns-hold : (n : ℕ) (w : World) → Inv n w → ReignsHold n w
reigns-hold n w i = record {
  named = λ s c name h e. subst (PacketOk w (sender_of s.packet) s.to) e (i.sent s h);
  not_better = λ v c k log h. (i.raises _ h).named;
  one_log = λ k c log log' h h'. ap (λ (r : Raise). r.log) (i.one_raise _ _ h h' refl refl);
  elected = λ r h. (i.reigns r h).elected;
  first = λ r h. (i.reigns r h).first;
  one = λ r r' h h' e. i.one_reign r r' h h' e;
}
