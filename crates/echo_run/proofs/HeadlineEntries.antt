-- What entries owe stands apart, and is owed by its entry.
use Rattle.std.proofs.Common.{◌≡◌, ℕ, zero, suc, ◌+◌, ◌<◌, ◌≤◌, ℤ, true, nat_le, List, [], ◌∷◌, ◌++◌, take, length, fold, get_or, Option, Some, None, refl, sym, ◌∙◌, ap, subst, arith, append_assoc, append-nil, length-append}
use Rattle.std.proofs.lemmas.Bool.{false≢true}
use Rattle.std.specs.Prelude.{slice_get, is_some, All, Contains, ⊤}
use Rattle.std.proofs.lemmas.List.{take-append-le}
use Rattle.std.proofs.lemmas.Option.{slice_get_within}
use Rattle.std.proofs.lemmas.List.Elements.{All-nil, All-cons, All-append, All-weaker, All-contains_itself, Contains-append_left}
use Rattle.entry_log.specs.TermLaws.{choice}
use Rattle.election.specs.declared.member.Election.{Election}
use Rattle.sbe_events.specs.declared.event.Event.{Event}
use Rattle.sbe_events.specs.declared.event.Event.TheVariants as event
use Rattle.sbe_client.specs.declared.egress.Egress.TheVariants as egress
use Rattle.echo_run.specs.Headline.{entry_of, IsOwed, IsOther, IsSentByLeader}
use Rattle.sbe_events.specs.Spelling.{term_of}
use Rattle.echo_run.specs.Module.{empty, module_of, module_after, session_of}
use Rattle.echo_run.specs.Owed.{new_leader_to, closed_to, owed_by_module, given_to, owed_by_echo, owed}
use Rattle.echo_run.specs.World.{World, leads_in, sent_at, sent_from}
use Rattle.echo_run.specs.declared.sent.Origin.{Origin}
use Rattle.echo_run.specs.declared.sent.Origin.TheVariants as origin
use Rattle.echo_run.specs.declared.module.Session.{Session}
use Rattle.echo_run.specs.declared.module.Module.{Module}
use Rattle.echo_run.specs.declared.sent.Sent.{Sent}

-- each record is another than each later one
abbrev pub Apart : List Sent → Type 0
Apart [] = ⊤
Apart (s ∷ ss) = All (IsOther s) ss × Apart ss

pub apart_pairs : (ss : List Sent) → Apart ss → (i j : ℕ) (d : Sent) → i < j → j < length ss → IsOther (get_or ss i d) (get_or ss j d)
apart_pairs [] apart i j d order within = absurd (let no : ⊥ = omega arith in no)
apart_pairs (s ∷ ss) apart zero zero d order within = absurd (let no : ⊥ = omega arith in no)
apart_pairs (s ∷ ss) apart zero (suc j) d order within = apart.0 j d (omega arith)
apart_pairs (s ∷ ss) apart (suc i) zero d order within = absurd (let no : ⊥ = omega arith in no)
apart_pairs (s ∷ ss) apart (suc i) (suc j) d order within = apart_pairs ss apart.1 i j d (omega arith) (omega arith)

-- lists stand apart of which each is, where no record of the one is one of the other
pub apart_append : (P Q : Sent → Type 0) → ((s t : Sent) → P s → Q t → IsOther s t) → (xs ys : List Sent) → All P xs → All Q ys → Apart xs → Apart ys → Apart (xs ++ ys)
apart_append P Q other [] ys p q a b = b
apart_append P Q other (x ∷ xs) ys p q a b = (
  All-append (IsOther x) xs ys a.0 (All-weaker Q (IsOther x) (λ t. other x t (p 0 x (omega arith))) ys q),
  apart_append P Q other xs ys (λ k d h. p (suc k) d (omega arith)) q a.1 b,
)

pub one_apart : (s : Sent) → Apart (s ∷ [])
one_apart s = (All-nil (IsOther s), tt)

pub one_all : (P : Sent → Type 0) (s : Sent) → P s → All P (s ∷ [])
one_all P s p = All-cons P s [] p (All-nil P)

-- the number of a record of the module's
abbrev module_number : Origin → Option ℕ
module_number (origin.Module i j) = Some j
module_number _ = None

pub some_same : (a b : ℕ) → Some a ≡ Some b → a ≡ b
some_same a b e = cc

pub some_none : (a : ℕ) → Some a ≡ None → ⊥
some_none a e = false≢true (sym (ap is_some e))

-- the module owes it at entry i, with a number from j on
abbrev IsModules : ℕ → ℕ → Sent → Type 0
IsModules i j s = (k : ℕ) × (s.origin ≡ origin.Module i k) × (j ≤ k)

-- a service owes it at entry i
abbrev IsServices : ℕ → Sent → Type 0
IsServices i s = (v : ℕ) × (k : ℕ) × (s.origin ≡ origin.Service i v k)

abbrev AtEntry : ℕ → Sent → Type 0
AtEntry i s = entry_of s.origin ≡ Some i

-- an entry from n on owes it
abbrev pub FromEntry : ℕ → Sent → Type 0
FromEntry n s = (i : ℕ) × (entry_of s.origin ≡ Some i) × (n ≤ i)

-- no entry from n on owes it
abbrev pub BeforeEntry : ℕ → Sent → Type 0
BeforeEntry n s = (i : ℕ) → entry_of s.origin ≡ Some i → i < n

-- what stands before an entry is other than what stands from it on
pub before_from : (n : ℕ) (s t : Sent) → BeforeEntry n s → FromEntry n t → IsOther s t
before_from n s t before from same =
    let less : from.0 < n = before from.0 (ap entry_of same ∙ from.1) in
    let more : n ≤ from.0 = from.2 in
    absurd (let no : ⊥ = omega arith in no)

modules_at : (i j : ℕ) (s : Sent) → s.origin ≡ origin.Module i j → IsModules i j s
modules_at i j s h = (j, h, omega arith)

modules_later : (i j : ℕ) (s : Sent) → IsModules i (suc j) s → IsModules i j s
modules_later i j s p = let later : suc j ≤ p.0 = p.2 in (p.0, p.1, omega arith)

-- the news of a new leader to a session
abbrev news : ℕ → ℕ → ℤ → ℤ → Session → Sent
news i j term leader s = record { stream = s.stream; origin = origin.Module i j; egress = egress.NewLeader term s.id leader }

leader_all : (i j : ℕ) (term leader : ℤ) (ss : List Session) → All (IsModules i j) (new_leader_to i j term leader ss)
leader_all i j term leader [] = All-nil (IsModules i j)
leader_all i j term leader (s ∷ ss) =
    All-cons (IsModules i j) (news i j term leader s) (new_leader_to i (suc j) term leader ss) (modules_at i j (news i j term leader s) refl)
    (All-weaker (IsModules i (suc j)) (IsModules i j) (modules_later i j) (new_leader_to i (suc j) term leader ss) (leader_all i (suc j) term leader ss))

number_later : (i j : ℕ) (s t : Sent) → s.origin ≡ origin.Module i j → IsModules i (suc j) t → IsOther s t
number_later i j s t here p same =
    let is : j ≡ p.0 = some_same j p.0 (ap module_number (sym here ∙ same ∙ p.1)) in
    let later : suc j ≤ p.0 = p.2 in
    absurd (let no : ⊥ = omega arith in no)

leader_apart : (i j : ℕ) (term leader : ℤ) (ss : List Session) → Apart (new_leader_to i j term leader ss)
leader_apart i j term leader [] = tt
leader_apart i j term leader (s ∷ ss) = (
  All-weaker (IsModules i (suc j)) (IsOther (news i j term leader s)) (λ t p. number_later i j (news i j term leader s) t refl p) (new_leader_to i (suc j) term leader ss) (leader_all i (suc j) term leader ss),
  leader_apart i (suc j) term leader ss,
)

closed_all : (i : ℕ) (term leader : ℤ) (o : Option Session) → All (IsModules i 0) (closed_to i term leader o) × Apart (closed_to i term leader o)
closed_all i term leader None = (All-nil (IsModules i 0), tt)
closed_all i term leader (Some s) =
    let x : Sent = record { stream = s.stream; origin = origin.Module i 0; egress = egress.SessionEvent s.id s.corr term leader 4 } in
    (one_all (IsModules i 0) x (modules_at i 0 x refl), one_apart x)

module_all : (m : Module) (i : ℕ) (e : Event) → All (IsModules i 0) (owed_by_module m i e) × Apart (owed_by_module m i e)
module_all m i (event.Term term position stamp base leader) = (leader_all i 0 term leader m.sessions, leader_apart i 0 term leader m.sessions)
module_all m i (event.Opened term corr session stamp stream channel) =
    let x : Sent = record { stream = stream; origin = origin.Module i 0; egress = egress.SessionEvent session corr term m.leader 0 } in
    (one_all (IsModules i 0) x (modules_at i 0 x refl), one_apart x)
module_all m i (event.Closed term session stamp reason) = closed_all i term m.leader (session_of m session)
module_all m i _ = (All-nil (IsModules i 0), tt)

abbrev HasOrigin : Origin → Sent → Type 0
HasOrigin o s = s.origin ≡ o

given_all : (o : Origin) (term stamp session : ℤ) (payload : List ℕ) (to : Option Session)
    → All (HasOrigin o) (given_to o term stamp session payload to) × Apart (given_to o term stamp session payload to)
given_all o term stamp session payload None = (All-nil (HasOrigin o), tt)
given_all o term stamp session payload (Some s) =
    let x : Sent = record { stream = s.stream; origin = o; egress = egress.Message term session stamp payload } in
    choice (λ (xs : List Sent). All (HasOrigin o) xs × Apart xs) (nat_le (length payload) 16384) (x ∷ []) [] (λ h. (one_all (HasOrigin o) x refl, one_apart x)) (λ h. (All-nil (HasOrigin o), tt))

echo_all : (m : Module) (i : ℕ) (e : Event) → All (IsServices i) (owed_by_echo m i e) × Apart (owed_by_echo m i e)
echo_all m i (event.Message term session stamp payload) =
    let g = given_all (origin.Service i 0 0) term stamp session payload (session_of m session) in
    let xs = given_to (origin.Service i 0 0) term stamp session payload (session_of m session) in
    subst (λ (ys : List Sent). All (IsServices i) ys × Apart ys) (sym (append-nil xs)) (All-weaker (HasOrigin (origin.Service i 0 0)) (IsServices i) (λ s p. (0, 0, p)) xs g.0, g.1)
echo_all m i _ = (All-nil (IsServices i), tt)

module_other : (i : ℕ) (s t : Sent) → IsModules i 0 s → IsServices i t → IsOther s t
module_other i s t p q same = absurd (some_none p.0 (ap module_number (sym p.1 ∙ same ∙ q.2)))

owed_all : (m : Module) (i : ℕ) (e : Event) → All (AtEntry i) (owed m i e) × Apart (owed m i e)
owed_all m i e =
    let a = module_all m i e in
    let b = echo_all (module_after m e) i e in
    let xs = owed_by_module m i e in
    let ys = owed_by_echo (module_after m e) i e in (
      All-append (AtEntry i) xs ys (All-weaker (IsModules i 0) (AtEntry i) (λ s p. ap entry_of p.1) xs a.0) (All-weaker (IsServices i) (AtEntry i) (λ s p. ap entry_of p.2) ys b.0),
      apart_append (IsModules i 0) (IsServices i) (module_other i) xs ys a.0 b.0 a.1 b.1,
    )

at_from : (n : ℕ) (s t : Sent) → AtEntry n s → FromEntry (suc n) t → IsOther s t
at_from n s t here from same =
    let is : n ≡ from.0 = some_same n from.0 (sym here ∙ ap entry_of same ∙ from.1) in
    let more : suc n ≤ from.0 = from.2 in
    absurd (let no : ⊥ = omega arith in no)

from_at : (n : ℕ) (s : Sent) → AtEntry n s → FromEntry n s
from_at n s here = (n, here, omega arith)

from_later : (n : ℕ) (s : Sent) → FromEntry (suc n) s → FromEntry n s
from_later n s from = let more : suc n ≤ from.0 = from.2 in (from.0, from.1, omega arith)

-- what entries from n on owe is owed by entries from n on, and each record is another than each later one
pub sent_all : (election : Election) (m : Module) (n : ℕ) (es : List Event) → All (FromEntry n) (sent_from election m n es) × Apart (sent_from election m n es)
sent_all election m n [] = (All-nil (FromEntry n), tt)
sent_all election m n (e ∷ es) =
    let xs = sent_at election m n e in
    let ys = sent_from election (module_after m e) (suc n) es in
    let a : All (AtEntry n) xs × Apart xs =
    choice (λ (zs : List Sent). All (AtEntry n) zs × Apart zs) (leads_in election (term_of e)) (owed m n e) [] (λ h. owed_all m n e) (λ h. (All-nil (AtEntry n), tt)) in
    let b = sent_all election (module_after m e) (suc n) es in (
      All-append (FromEntry n) xs ys (All-weaker (AtEntry n) (FromEntry n) (from_at n) xs a.0) (All-weaker (FromEntry (suc n)) (FromEntry n) (from_later n) ys b.0),
      apart_append (AtEntry n) (FromEntry (suc n)) (at_from n) xs ys a.0 b.0 a.1 b.1,
    )

-- why a record was sent: entry i of the log owes it, and the member leads in the entry's term
abbrev pub Paid : Election → List Event → Sent → Type 0
Paid election log s = (i : ℕ) → entry_of s.origin ≡ Some i → (e : Event) × (slice_get log i ≡ Some e) × Contains (owed (module_of (take i log)) i e) s × (leads_in election (term_of e) ≡ true)

get_here : (xs : List Event) (e : Event) (es : List Event) → slice_get (xs ++ e ∷ es) (length xs) ≡ Some e
get_here [] e es = refl
get_here (x ∷ xs) e es = get_here xs e es

take_here : (xs ys : List Event) → take (length xs) (xs ++ ys) ≡ xs
take_here [] ys = refl
take_here (x ∷ xs) ys = ap (λ l. x ∷ l) (take_here xs ys)

-- a fold over a list and one more
pub push_fold : {X A : Type 0} (f : A → X → A) (a : A) (xs : List X) (x : X) → fold f a (xs ++ x ∷ []) ≡ f (fold f a xs) x
push_fold f a [] x = refl
push_fold f a (y ∷ ys) x = push_fold f (f a y) ys x

paid_one : (election : Election) (xs : List Event) (e : Event) (es : List Event) (m : Module) (n : ℕ) → m ≡ module_of xs → n ≡ length xs → leads_in election (term_of e) ≡ true
    → (s : Sent) → AtEntry n s → Contains (owed m n e) s → Paid election (xs ++ e ∷ es) s
paid_one election xs e es m n before place leads s here among i at =
    let log = xs ++ e ∷ es in
    let is : i ≡ length xs = some_same i n (sym at ∙ here) ∙ place in
    let front : take i log ≡ xs = ap (λ j. take j log) is ∙ take_here xs (e ∷ es) in
    let same : owed m n e ≡ owed (module_of (take i log)) i e = ap (λ q. owed q n e) (before ∙ ap module_of (sym front)) ∙ ap (λ j. owed (module_of (take i log)) j e) (place ∙ sym is) in
    (e, ap (slice_get log) is ∙ get_here xs e es, subst (λ (o : List Sent). Contains o s) same among, leads)

-- what is sent for the entries behind a front of the log
pub paid_from : (election : Election) (xs es : List Event) (m : Module) (n : ℕ) → m ≡ module_of xs → n ≡ length xs → All (Paid election (xs ++ es)) (sent_from election m n es)
paid_from election xs [] m n before place = All-nil (Paid election (xs ++ []))
paid_from election xs (e ∷ es) m n before place =
    let next : module_after m e ≡ module_of (xs ++ e ∷ []) = ap (λ q. module_after q e) before ∙ sym (push_fold module_after empty xs e) in
    let further : suc n ≡ length (xs ++ e ∷ []) = (let more : length (xs ++ e ∷ []) ≡ length xs + 1 = length-append xs (e ∷ []) in omega arith) in
    let all = owed_all m n e in
    let self = All-contains_itself (owed m n e) in
    All-append (Paid election (xs ++ e ∷ es)) (sent_at election m n e) (sent_from election (module_after m e) (suc n) es)
    (choice (All (Paid election (xs ++ e ∷ es))) (leads_in election (term_of e)) (owed m n e) []
    (λ leads k d h. paid_one election xs e es m n before place leads (get_or (owed m n e) k d) (all.0 k d h) (self k d h))
    (λ h. All-nil (Paid election (xs ++ e ∷ es))))
    (subst (λ (log : List Event). All (Paid election log) (sent_from election (module_after m e) (suc n) es)) (append_assoc xs (e ∷ []) es)
    (paid_from election (xs ++ e ∷ []) es (module_after m e) (suc n) next further))

-- an entry stays where it is as the log goes on
get_front : (xs ys : List Event) (i : ℕ) (e : Event) → slice_get xs i ≡ Some e → slice_get (xs ++ ys) i ≡ Some e
get_front [] ys i e h = absurd (false≢true (ap is_some h))
get_front (x ∷ xs) ys zero e h = h
get_front (x ∷ xs) ys (suc i) e h = get_front xs ys i e h

pub owed_on : (xs ys : List Event) (s : Sent) → IsOwed xs s → IsOwed (xs ++ ys) s
owed_on xs ys s owes i at =
    let p = owes i at in
    let within : i < length xs = slice_get_within xs i p.0 p.1 in
    let same : take i xs ≡ take i (xs ++ ys) = sym (take-append-le i xs ys (omega (arith, within))) in
    (p.0, get_front xs ys i p.0 p.1, subst (λ (log : List Event). Contains (owed (module_of log) i p.0) s) same p.2)

pub led_on : (phases more : List World) (xs ys : List Event) (s : Sent) → IsSentByLeader phases xs s → IsSentByLeader (phases ++ more) (xs ++ ys) s
led_on phases more xs ys s led i at =
    let p = led i at in
    let q = p.2 in
    (p.0, get_front xs ys i p.0 p.1, (q.0, Contains-append_left phases more q.0 q.1, q.2))
