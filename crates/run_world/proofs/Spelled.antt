-- All that members say in the world of steps has a spelling.
use Rattle.std.proofs.Common.{◌≡◌, ◌≢◌, inl, inr, ℕ, zero, suc, ◌+◌, ◌<◌, ◌≤◌, ◌^◌, Bool, true, false, ◌&&◌, List, [], ◌∷◌, ◌++◌, length, set, take, drop, Option, Some, None, refl, sym, ap, ◌∙◌, subst, arith, ℤ, pos, negsuc, ◌≤ℤ◌, if◌then◌else◌}
use Rattle.std.specs.Prelude.{⊤, Contains, not, nat_lt, nat_eq, is_none, slice_index_or}
use Rattle.std.specs.List.{AllByRecursion}
use Rattle.std.proofs.lemmas.Int.{ints}
use Rattle.std.proofs.lemmas.Bool.{cases_eq}
use Rattle.std.proofs.lemmas.List.{append-nil, drop-map, length-map, length-set}
use Rattle.std.proofs.lemmas.List.Elements.{Contains-append_cases}
use Rattle.cl_base.specs.declared.entry.Entry.{Entry}
use Rattle.entry_log.specs.Durable.{Durable}
use Rattle.entry_log.specs.Log.{Log, last, place, Rises, RisesFrom}
use Rattle.entry_log.specs.Shape.{Shape, entry_shape, shape_of, end_of, ends_by, last_term_of, TermsRiseFrom}
use Rattle.entry_log.specs.Batches.{is_batch}
use Rattle.log_replication.specs.Replication.{IsAnchored}
use Rattle.log_replication.specs.Prefixes.{leads, Rises-front}
use Rattle.sbe_events.specs.Laws.{encoded}
use Rattle.sbe_events.specs.Spelling.{HasSpelling as IsEvent, spelling_of}
use Rattle.sbe_events.specs.declared.event.Event.{Event}
use Rattle.sbe_consensus.specs.Spelling.{HasSpelling, IsEntry, AreEntries}
use Rattle.service_api.specs.declared.shipped.Kind.{Kind}
use Rattle.module_state.specs.Places.{entry_of, log_of}
use Rattle.module_state.specs.Entries.{IsSpellable}
use Rattle.consensus_core.specs.Fit.{IsFit, IsSound, IsTerm, is_balloting, has_term}
use Rattle.consensus_core.specs.Member.{Member, Sent, Cut, Whole, Before, After, after, sent_by, said, speaks, entries_in, changed, changed_log, stopped}
use Rattle.consensus_core.specs.Reign.{greatest}
use Rattle.consensus_core.specs.Sends.{packet_of, batch_of, to_others, batch_count, batch_to, batches, announcement_to, announcements, sends_of, ranges, CanSpell, AreWanted}
use Rattle.consensus_core.specs.declared.change.Change.{Change}
use Rattle.consensus_core.specs.declared.change.Change.TheVariants as changes
use Rattle.consensus_core.specs.declared.plan.Plan.{Plan}
use Rattle.consensus_core.specs.declared.plan.Plan.TheVariants as plans
use Rattle.consensus_core.specs.declared.plan.Word.{Word}
use Rattle.consensus_core.specs.declared.plan.Word.TheVariants as words
use Rattle.consensus_core.specs.declared.row.Row.{Row}
use Rattle.consensus_core.specs.declared.sends.Send.{Send}
use Rattle.consensus_core.specs.declared.sends.Send.TheVariants.{Says, Hands}
use Rattle.consensus_core.specs.declared.values.Values.{Values}
use Rattle.consensus_core.proofs.Measured.{event_short}
use Rattle.consensus_core.proofs.OverLog.{same_name_law}
use Rattle.consensus_core.proofs.Spoken.{IsSpoken, can_spell}
use Rattle.world.specs.World.{World, Raise, Reign, member, put, acts, raises_by, reigns_by}
use Rattle.world.proofs.Kept.{Inv, Known, member-put_same, member-put_other}
use Rattle.world.proofs.Effects.{none_in, only_in}
use Rattle.agreement.proofs.Second.{Fits, reign_of}
use Rattle.one_log.proofs.Good.{Good}
use Rattle.one_log.proofs.Formed.{Formed, good-anchored}
use Rattle.run_world.specs.Lawful.{IsSpelled, IsLeader}
use Rattle.run_world.proofs.Towards.{IsTowards, speaks-to}

-- ---- the entries of a LogBatch are there

Within : List Send → Log → Type 0
Within [] log = ⊤
Within (Says to w ∷ ss) log = Within ss log
Within (Hands to start from count ∷ ss) log = (count ≤ length (drop from log)) × Within ss log

within_append : (xs ys : List Send) (log : Log) → Within xs log → Within ys log → Within (xs ++ ys) log
unfolding Within
within_append [] ys log a b = b
within_append (Says to w ∷ ss) ys log a b = within_append ss ys log a b
within_append (Hands to start from count ∷ ss) ys log a b = (a.0, within_append ss ys log a.1 b)

greatest_within : (test : ℕ → Bool) (n : ℕ) → greatest test n ≤ n
greatest_within test zero = omega arith
greatest_within test (suc n) = at (test (suc n)) (greatest_within test n)
  where
    at : (b : Bool) → greatest test n ≤ n → (if b then suc n else greatest test n) ≤ suc n
    at true h = omega arith
    at false h = omega (arith, h)

count_within : (from : ℕ) (log : Log) → batch_count from (shape_of log) ≤ length (drop from log)
count_within from log =
    let a = greatest_within (λ k. is_batch (end_of (take from (shape_of log))) (take k (drop from (shape_of log)))) (length (drop from (shape_of log))) in
    let same : length (drop from (shape_of log)) ≡ length (drop from log) = ap length (drop-map entry_shape from log) ∙ length-map (drop from log) entry_shape in
    subst (λ n. batch_count from (shape_of log) ≤ n) same a

batch_within : (k m : ℕ) (log : Log) (acked : Option ℕ) → Within (batch_to k m (shape_of log) acked) log
unfolding Within
batch_within k m log None = tt
batch_within k m log (Some p) = at (nat_lt p (end_of (shape_of log)) && not (nat_eq k m))
  where
    at : (b : Bool) → Within (if b then Hands k p (ends_by p (shape_of log)) (batch_count (ends_by p (shape_of log)) (shape_of log)) ∷ [] else []) log
    at true = (count_within (ends_by p (shape_of log)) log, tt)
    at false = tt

batches_within : (n m : ℕ) (log : Log) (acked : List (Option ℕ)) → Within (batches n m acked (shape_of log)) log
unfolding Within
batches_within zero m log acked = tt
batches_within (suc n) m log acked =
    within_append (batches n m acked (shape_of log)) (batch_to n m (shape_of log) (slice_index_or acked n None)) log (batches_within n m log acked) (batch_within n m log (slice_index_or acked n None))

others_within : (n m : ℕ) (w : Word) (log : Log) → Within (to_others n m w) log
unfolding Within
others_within zero m w log = tt
others_within (suc n) m w log = within_append (to_others n m w) (if nat_eq n m then [] else Says n w ∷ []) log (others_within n m w log) (at (nat_eq n m))
  where
    at : (b : Bool) → Within (if b then [] else Says n w ∷ []) log
    at true = tt
    at false = tt

announcements_within : (n m : ℕ) (acked : List (Option ℕ)) (log : Log) → Within (announcements n m acked) log
unfolding Within
announcements_within zero m acked log = tt
announcements_within (suc n) m acked log =
    within_append (announcements n m acked) (announcement_to n m (slice_index_or acked n None)) log (announcements_within n m acked log) (at (is_none (slice_index_or acked n None) && not (nat_eq n m)))
  where
    at : (b : Bool) → Within (if b then Says n words.Announcement ∷ [] else []) log
    at true = tt
    at false = tt

optional : (b : Bool) (ss : List Send) (log : Log) → Within ss log → Within (if b then ss else []) log
unfolding Within
optional true ss log h = h
optional false ss log h = tt

plan_within : (p : Plan) (v : Values) (log : Log) → Within (sends_of p v (shape_of log)) log
unfolding Within
plan_within plans.Silence v log = tt
plan_within (plans.All word) v log = others_within v.election.members v.election.id word log
plan_within (plans.One to word) v log = tt
plan_within (plans.Beat commit announce) v log =
    let n = v.election.members in
    let m = v.election.id in
    let others = to_others n m words.Commit in
    let news = announcements n m v.rest.acked in
    within_append (batches n m v.rest.acked (shape_of log)) ((if commit then others else []) ++ (if announce then news else [])) log
    (batches_within n m log v.rest.acked)
    (within_append (if commit then others else []) (if announce then news else []) log (optional commit others log (others_within n m words.Commit log)) (optional announce news log (announcements_within n m v.rest.acked log)))

-- ---- what is said of a log of events

take_front : (n : ℕ) (xs ys : Log) → n ≤ length xs → take n (take n xs ++ ys) ≡ take n xs
take_front zero xs ys h = refl
take_front (suc n) [] ys h = absurd (omega (arith, h))
take_front (suc n) (x ∷ xs) ys h = ap (λ (l : Log). x ∷ l) (take_front n xs ys (omega (arith, h)))

drop_front : (n : ℕ) (xs ys : Log) → n ≤ length xs → drop n (take n xs ++ ys) ≡ ys
drop_front zero xs ys h = refl
drop_front (suc n) [] ys h = absurd (omega (arith, h))
drop_front (suc n) (x ∷ xs) ys h = drop_front n xs ys (omega (arith, h))

front_long : (n : ℕ) (xs ys : Log) → n ≤ length xs → n ≤ length (take n xs ++ ys)
front_long zero xs ys h = omega arith
front_long (suc n) [] ys h = absurd (omega (arith, h))
front_long (suc n) (x ∷ xs) ys h = let z = front_long n xs ys (omega (arith, h)) in omega (arith, z)

take_entries : (k : ℕ) (es : Log) → AreEntries es → AreEntries (take k es)
take_entries zero es h = tt
take_entries (suc k) [] h = tt
take_entries (suc k) (x ∷ xs) h = (h.0, take_entries k xs h.1)

drop_entries : (k : ℕ) (es : Log) → AreEntries es → AreEntries (drop k es)
drop_entries zero es h = h
drop_entries (suc k) [] h = tt
drop_entries (suc k) (x ∷ xs) h = drop_entries k xs h.1

wanted : (ss : List Send) (log : Log) → Within ss log → AreEntries log → AreWanted ss (entries_in (ranges ss) log)
unfolding Within
wanted [] log w e = tt
wanted (Says to word ∷ ss) log w e = wanted ss log w e
wanted (Hands to start from count ∷ ss) log w e =
    let rest = entries_in (ranges ss) log in (
      front_long count (drop from log) rest w.0,
      subst AreEntries (sym (take_front count (drop from log) rest w.0)) (take_entries count (drop from log) (drop_entries from log e)),
      subst (AreWanted ss) (sym (drop_front count (drop from log) rest w.0)) (wanted ss log w.1 e),
    )

said_spelled : (ss : List Send) (v : Values) (log : Log) → Within ss log → CanSpell ss v (shape_of log) (entries_in (ranges ss) log) → AllByRecursion (λ (s : Sent). HasSpelling s.packet) (said ss v log)
unfolding Within
said_spelled [] v log w c = tt
said_spelled (Says to word ∷ ss) v log w c = (c.0, said_spelled ss v log w c.1)
said_spelled (Hands to start from count ∷ ss) v log w c =
    let rest = entries_in (ranges ss) log in (
      subst (λ (es : Log). HasSpelling (batch_of v start es)) (take_front count (drop from log) rest w.0) c.1,
      said_spelled ss v log w.1 (subst (λ (es : Log). CanSpell ss v (shape_of log) es) (drop_front count (drop from log) rest w.0) c.2),
    )

-- all that a sound row says
speaks_spelled : (p : Plan) (v : Values) (log : Log) → IsSound v p → IsSpoken (shape_of log) → AreEntries log → AllByRecursion (λ (s : Sent). HasSpelling s.packet) (speaks p v log)
speaks_spelled p v log sound spoken e =
    let ss = sends_of p v (shape_of log) in
    let w = plan_within p v log in
    said_spelled ss v log w (can_spell p v (shape_of log) (entries_in (ranges ss) log) sound.fit sound.plan spoken (wanted ss log w e))

-- ---- the logs of the world

event_entry : (e : Event) → IsEvent e → IsEntry (entry_of e)
event_entry e h = let short = event_short (spelling_of e) e (encoded e h) in record { event = (e, encoded e h, refl); short = omega (arith, short) }

events_entries : (es : List Event) → AllByRecursion IsSpellable es → AreEntries (log_of es)
events_entries [] h = tt
events_entries (e ∷ es) h = (event_entry e h.0.0, events_entries es h.1)

rises_shape : (t : ℤ) (log : Log) → RisesFrom t log → TermsRiseFrom t (shape_of log)
rises_shape t [] r = tt
rises_shape t (x ∷ xs) r = (r.0, rises_shape x.term xs r.1)

anchored_rises : (n : ℕ) (w : World) (log : Log) → Fits n w → IsAnchored (reign_of w) log → Rises log
anchored_rises n w [] f a = tt
anchored_rises n w (x ∷ xs) f a =
    Rises-front (negsuc 0) (x ∷ xs) (reign_of w (last (x ∷ xs))) (leads (x ∷ xs) (reign_of w (last (x ∷ xs))) (a (x ∷ xs) ([], append-nil (x ∷ xs)) (λ z. cc))) (f.grounded.rises (last (x ∷ xs)))

-- of a member's log, whose candidate term is within the limit
log_spoken : (n : ℕ) (kinds : List Kind) (w : World) (m : ℕ) → Fits n w → Formed kinds w → IsTerm (member w m).durable.candidate → IsSpoken (shape_of (member w m).durable.log) × AreEntries (member w m).durable.log
log_spoken n kinds w m f g t =
    let log = (member w m).durable.log in
    let good : Good kinds w.now log = good-anchored kinds w log g (f.grounded.anchored m) in
    let name = same_name_law log in
    let room = good.room in
    let low = f.low m in
    let high = t.high in (
      record {
        place = (let e = ap (λ z. z.place) name in omega (arith, e, room));
        term = subst (λ (u : ℤ). u ≤ℤ pos (2 ^ 62)) (sym (ap (λ z. z.term) name)) (below (last log) (member w m).durable.candidate low high);
        rises = rises_shape (negsuc 0) log (anchored_rises n w log f (f.grounded.anchored m));
      },
      subst AreEntries (sym good.are) (events_entries good.es good.spellable),
    )
  where
    below : (a b : ℤ) → a ≤ℤ b → b ≤ℤ pos (2 ^ 62) → a ≤ℤ pos (2 ^ 62)
    below a b p q = omega (arith, ints, p, q)

-- ---- a change of one member

all-of : {X : Type 0} (P : X → Type 0) (xs : List X) → AllByRecursion P xs → (x : X) → Contains xs x → P x
all-of P [] a x h = absurd (none_in x h)
all-of P (y ∷ ys) a x h = elim (Contains-append_cases (y ∷ []) ys x h) [
  | inl one ↦ subst P (only_in y x one) a.0
  | inr more ↦ all-of P ys a.1 x more
]

pub put-spelled : (w : World) (m : ℕ) (y : Member) (rs : List Raise) (ps : List Sent) (gs : List Reign) → m < length w.members → (y.up ≡ true → IsFit y.values.election) → (y.up ≡ true → IsLeader (length w.members) y.values.election.leader) → IsTerm y.durable.candidate
    → AllByRecursion (λ (s : Sent). HasSpelling s.packet) ps → AllByRecursion (λ (s : Sent). s.to < length w.members) ps → IsSpelled w → IsSpelled (put w m y rs ps gs)
put-spelled w m y rs ps gs l fit leads kept all to i =
    let size : length w.members ≡ length (set w.members m y) = sym (length-set w.members m y) in
    record {
      fit = λ j. changes (λ (x : Member). x.up ≡ true → IsFit x.values.election) fit i.fit j;
      leads = λ j. subst (λ (n : ℕ). (member (put w m y rs ps gs) j).up ≡ true → IsLeader n (member (put w m y rs ps gs) j).values.election.leader) size
          (changes (λ (x : Member). x.up ≡ true → IsLeader (length w.members) x.values.election.leader) leads i.leads j);
      kept = λ j. changes (λ (x : Member). IsTerm x.durable.candidate) kept i.kept j;
      sent = λ s has. elim (Contains-append_cases w.sent ps s has) [
        | inl old ↦ i.sent s old
        | inr new ↦ all-of (λ (p : Sent). HasSpelling p.packet) ps all s new
      ];
      to = λ s has. subst (λ (n : ℕ). s.to < n) size (elim (Contains-append_cases w.sent ps s has) [
        | inl old ↦ i.to s old
        | inr new ↦ all-of (λ (p : Sent). p.to < length w.members) ps to s new
      ]);
    }
  where
    changes : (Q : Member → Type 0) → Q y → ((k : ℕ) → Q (member w k)) → (j : ℕ) → Q (member (put w m y rs ps gs) j)
    changes Q mine theirs j = elim (cases_eq j m) [
      | inl same ↦ subst (λ (k : ℕ). Q (member (put w m y rs ps gs) k)) (sym same) (subst Q (sym (member-put_same w m y rs ps gs l)) mine)
      | inr other ↦ subst Q (sym (member-put_other w m j y rs ps gs other)) (theirs j)
    ]

changed-same : (c : Change) (d : Durable) → (changed c d).log ≡ changed_log c d.log
changed-same changes.Nothing d = refl
changed-same (changes.Raise term voted) d = refl
changed-same (changes.Append entries) d = refl
changed-same (changes.Cut n) d = refl

-- a sound row, after which the world is as it should be
pub row-spelled : (n : ℕ) (kinds : List Kind) (w : World) (m : ℕ) (row : Row) (cut : Cut) → m < length w.members
    → Inv n (acts w m row Whole) → Fits n (acts w m row Whole) → Formed kinds (acts w m row Whole) → IsSound row.values row.plan → IsTowards (length w.members) row → IsSpelled w → IsSpelled (acts w m row cut)
unfolding acts
row-spelled n kinds w m row cut l inv fits formed sound towards spelled = at cut
  where
    x : Member
    x = member w m

    v : World
    v = acts w m row Whole

    here : member v m ≡ after row Whole x
    here = member-put_same w m (after row Whole x) (raises_by m x.durable.log row.change Whole) (sent_by row Whole x) (reigns_by m x row Whole) l

    count : length w.members ≡ n
    count = sym (length-set w.members m (after row Whole x)) ∙ inv.count

    known : Known v n m (member v m)
    known = (inv.members m (let e = count in omega (arith, l, e))).known (ap (λ (y : Member). y.up) here)

    kept : IsTerm (changed row.change x.durable).candidate
    kept =
        let e : row.values.election.candidate ≡ (changed row.change x.durable).candidate = subst (λ (y : Member). y.values.election.candidate ≡ y.durable.candidate) here known.candidate in
        subst IsTerm e sound.fit.candidate

    all : AllByRecursion (λ (p : Sent). HasSpelling p.packet) (speaks row.plan row.values (changed_log row.change x.durable.log))
    all =
        let spoken = log_spoken n kinds v m fits formed (subst (λ (y : Member). IsTerm y.durable.candidate) (sym here) kept) in
        let log : (member v m).durable.log ≡ changed_log row.change x.durable.log = ap (λ (y : Member). y.durable.log) here ∙ changed-same row.change x.durable in
        speaks_spelled row.plan row.values (changed_log row.change x.durable.log) sound (subst (λ (z : Log). IsSpoken (shape_of z)) log spoken.0) (subst AreEntries log spoken.1)

    to : AllByRecursion (λ (p : Sent). p.to < length w.members) (speaks row.plan row.values (changed_log row.change x.durable.log))
    to =
        let members : row.values.election.members ≡ n = subst (λ (y : Member). y.values.election.members ≡ n) here known.members in
        let e = count in
        speaks-to (length w.members) row.plan row.values (changed_log row.change x.durable.log) (omega (arith, members, e)) towards.1

    at : (c : Cut) → IsSpelled (acts w m row c)
    at Whole = put-spelled w m (after row Whole x) (raises_by m x.durable.log row.change Whole) (sent_by row Whole x) (reigns_by m x row Whole) l (λ up. sound.fit) (λ up. towards.0) kept all to spelled
    at Before = put-spelled w m (after row Before x) (raises_by m x.durable.log row.change Before) (sent_by row Before x) (reigns_by m x row Before) l (λ up. absurd (cc)) (λ up. absurd (cc)) (spelled.kept m) tt tt spelled
    at After = put-spelled w m (after row After x) (raises_by m x.durable.log row.change After) (sent_by row After x) (reigns_by m x row After) l (λ up. absurd (cc)) (λ up. absurd (cc)) kept tt tt spelled
