-- What is decided on an order, and what is done then.
use Rattle.std.proofs.Common.{◌≡◌, ℕ, ℤ, Bool, true, false, List, [], ◌∷◌, ◌++◌, Some, None, refl, sym, ap, subst, ◌∙◌}
use Rattle.std.specs.Prelude.{Result, Ok, Err, IfOk, OnOk}
use Rattle.cl_base.specs.Disk.{DiskState}
use Rattle.cl_base.specs.declared.entry.Entry.{Entry}
use Rattle.entry_log.specs.Log.{Log}
use Rattle.member_disk.specs.Kept.{Kept, Held as DiskHeld}
use Rattle.module_state.specs.Module.{Module}
use Rattle.member_module.specs.Held.{Held as ModuleHeld, at_end, brought_past, heard, latest_of, with_coming}
use Rattle.consensus_core.specs.declared.values.Values.{Values}
use Rattle.consensus_core.specs.Member.{is_ready}
use Rattle.consensus_core.specs.Reign.{entry_of}
use Rattle.consensus_core.specs.declared.change.Change.TheVariants as changes
use Rattle.sbe_events.specs.declared.event.Event.{Event}
use Rattle.ingress.specs.declared.outcome.Outcome.{Outcome}
use Rattle.ingress.specs.declared.outcome.Outcome.TheVariants as outcome
use Rattle.ingress.specs.declared.decision.Decided.{Decided}
use Rattle.ingress.specs.declared.decision.Decided.TheVariants as decisions
use Rattle.ingress.specs.declared.view.View.{View}
use Rattle.ingress.specs.Decisions.{Admits, decided_action}
use Rattle.ingress.proofs.Admitted.{action_admits}
use Rattle.consensus_agent.specs.declared.fault.AgentFault.{AgentFault}
use Rattle.consensus_agent.specs.declared.fault.AgentFault.TheVariants as fault
use Rattle.consensus_agent.specs.Accepted.{Adds, Decides, DecidesAction, HasMore, HasRoom, HasRoomFor, IsAppended, IsCalm, IsDecided, IsDecidedAction, IsDone, IsHeard, IsTried, IsView, OnAppend, OnFault, OnNothingNew, TookAction, TookClient, Tried, Tries}
use Rattle.consensus_agent.specs.Disks.{Done, Went}
use Rattle.consensus_agent.proofs.Views.{admitted_room}

-- what was admitted has its room
pub decision_has_room : (v : Values) (k : Kept) (t : Module) (w : View) (actions now : ℕ) (d : Decided) → IsView w v k.log t → Admits w actions now d → HasRoomFor d v k
decision_has_room v k t w actions now (decisions.Refuse o) is admits = tt
decision_has_room v k t w actions now (decisions.Alive session) is admits = tt
decision_has_room v k t w actions now (decisions.Append e) is admits = admitted_room v k w actions now e admits is.ready is.term is.place

-- the module at the log's end is asked only of who is ready to lead
view_up : (w : View) (v : Values) (log : Log) (t u : Module) → IsView w v log t → (is_ready v.election.state ≡ true → t ≡ u) → IsView w v log u
view_up w v log t u is up = record {
  ready = is.ready;
  leader = is.leader;
  term = is.term;
  place = is.place;
  commit = is.commit;
  sessions = λ ready. is.sessions ready ∙ ap (λ (m : Module). m.sessions) (up (sym is.ready ∙ ready));
}

-- a member that was brought up to its log's end changed nothing that counts
calm_heard : (session : ℤ) (now : ℕ) (m l n : ModuleHeld) → IsCalm m l → IsHeard session now l n → IsHeard session now m n
calm_heard session now m l n calm is = record {
  state = is.state ∙ calm.state;
  consumed = is.consumed ∙ calm.consumed;
  entries = is.entries ∙ calm.entries;
  events = is.events ∙ calm.events;
  coming = is.coming ∙ calm.coming;
  alive = is.alive ∙ ap (heard session now) calm.alive;
  since = is.since ∙ calm.since;
}

calm_more : (e : Event) (m l n : ModuleHeld) → IsCalm m l → HasMore e l n → HasMore e m n
calm_more e m l n calm is = record {
  state = is.state ∙ calm.state;
  consumed = is.consumed ∙ calm.consumed;
  entries = is.entries ∙ ap (λ (es : Log). es ++ entry_of e ∷ []) calm.entries;
  events = is.events ∙ ap (λ (es : List Event). es ++ e ∷ []) calm.events;
  coming = is.coming;
  alive = is.alive ∙ calm.alive;
  since = is.since ∙ calm.since;
}

calm_calm : (m l n : ModuleHeld) → IsCalm m l → IsCalm l n → IsCalm m n
calm_calm m l n calm is = record {
  state = is.state ∙ calm.state;
  consumed = is.consumed ∙ calm.consumed;
  entries = is.entries ∙ calm.entries;
  events = is.events ∙ calm.events;
  coming = is.coming ∙ calm.coming;
  alive = is.alive ∙ calm.alive;
  since = is.since ∙ calm.since;
}

done_after : (d : Decided) (now : ℕ) (o : Outcome) (a b : Kept) (m l n : ModuleHeld) → IsCalm m l → IsDone d now o a b l n → IsDone d now o a b m n
done_after (decisions.Refuse refusal) now o a b m l n calm done = (done.0, done.1, calm_calm m l n calm done.2)
done_after (decisions.Alive session) now o a b m l n calm done = (done.0, done.1, calm_heard session now m l n calm done.2)
done_after (decisions.Append e) now o a b m l n calm done = (done.0, done.1, calm_more e m l n calm done.2)

-- how many actions the log has is asked only of who is ready to lead
action_same : (w : View) (n k now : ℕ) → (w.ready ≡ true → n ≡ k) → decided_action w n now ≡ decided_action w k now
action_same w n k now same = at w.ready refl
  where
    at : (b : Bool) → w.ready ≡ b → decided_action w n now ≡ decided_action w k now
    at true h = ap (λ x. decided_action w x now) (same h)
    at false h = rw h refl

-- ---- what is said of a fault

-- another fact of the same fault
pub fault_then : {T P Q : Type 0} (r : Result T AgentFault) → (P → Q) → OnFault r P → OnFault r Q
fault_then (Ok x) f h = tt
fault_then (Err fault.Device) f h = f h
fault_then (Err (fault.Damaged file place)) f h = f h
fault_then (Err fault.NoMemory) f h = tt

-- a fact of what was answered, by two others
pub ok_and : {T E : Type 0} (r : Result T E) (F : T → Type 0) (P : Type 0) (G : T → Type 0) → ((x : T) → F x → P → G x) → IfOk r F → OnOk r P → IfOk r G
ok_and (Ok x) F P G f h k = f x h k
ok_and (Err e) F P G f h k = tt

handed_on : (T U : Type 0) (P Q : Type 0) (e : AgentFault) → (P → Q) → OnFault {T = T} (Err e) P → OnFault {T = U} (Err e) Q
handed_on T U P Q fault.Device f h = f h
handed_on T U P Q (fault.Damaged file place) f h = f h
handed_on T U P Q fault.NoMemory f h = tt

-- the same fault, handed on
pub fault_through : (T U P Q : Type 0) (r : Result T AgentFault) (x : Result U AgentFault) (e : AgentFault) → r ≡ Err e → x ≡ Err e → (P → Q) → OnFault r P → OnFault x Q
fault_through T U P Q r x e was is f h = subst (λ z. OnFault z Q) (sym is) (handed_on T U P Q e f (subst (λ z. OnFault z P) was h))

-- ---- what was decided, once the member was brought up

-- the same view, of a member that was brought up
view_before : (w : View) (v u : Values) (k l : Kept) (t r : Module) → u ≡ v → l ≡ k → (is_ready v.election.state ≡ true → t ≡ r) → IsView w u l.log t → IsView w v k.log r
view_before w v u k l t r same kept up is =
    view_up w v k.log t r (subst (λ (z : Kept). IsView w v z.log t) kept (subst (λ z. IsView w z l.log t) same is)) up

-- the same decision on an action
decided_before : (w : View) (v : Values) (log : Log) (t r : Module) (now : ℕ) (d : Decided) → IsView w v log t → (is_ready v.election.state ≡ true → t ≡ r) → IsDecidedAction w t now d → IsDecidedAction w r now d
decided_before w v log t r now d view up by =
    let counts : w.ready ≡ true → t.counts.actions ≡ r.counts.actions = λ ready. ap (λ (x : Module). x.counts.actions) (up (sym view.ready ∙ ready)) in
    let is : d ≡ decided_action w r.counts.actions now = by.is ∙ action_same w t.counts.actions r.counts.actions now counts in
    record { is = is; admits = subst (λ z. Admits w r.counts.actions now z) (sym is) (action_admits w r.counts.actions now) }

module _ {D : Type 0} (state : D → DiskState) (is_told is_honest : D → Bool) where
  adds_since : (d : Decided) (a k b : DiskHeld D) → k ≡ a → OnAppend d (λ e. Adds state is_told is_honest e k b) → OnAppend d (λ e. Adds state is_told is_honest e a b)
  adds_since d a k b same adds = subst (λ (z : DiskHeld D). OnAppend d (λ e. Adds state is_told is_honest e z b)) same adds

  done_since : (d : Decided) (now : ℕ) (o : Outcome) (a k b : DiskHeld D) (m l n : ModuleHeld) → k ≡ a → IsCalm m l → IsDone d now o k.kept b.kept l n → IsDone d now o a.kept b.kept m n
  done_since d now o a k b m l n same calm done = done_after d now o a.kept b.kept m l n calm (subst (λ (z : DiskHeld D). IsDone d now o z.kept b.kept l n) same done)

  -- a client's bytes were taken: what was decided, once the member was brought up, was done
  pub took_client : (v u : Values) (bytes : List ℕ) (now : ℕ) (d : Decided) (o : Outcome) (a k b : DiskHeld D) (m l n : ModuleHeld) (t : Module) → u ≡ v → k ≡ a → IsCalm m l → (is_ready v.election.state ≡ true → t ≡ at_end m) → Decides u k.kept t bytes now d
      → IsDone d now o k.kept b.kept l n → OnAppend d (λ e. Adds state is_told is_honest e k b) → TookClient state is_told is_honest v bytes now o a b m n
  took_client v u bytes now d o a k b m l n t same kept calm up decides done adds = record {
    view = decides.view;
    decision = d;
    is = view_before decides.view v u a.kept k.kept t (at_end m) same (ap (λ (z : DiskHeld D). z.kept) kept) up decides.is;
    by = decides.by;
    done = done_since d now o a k b m l n kept calm done;
    adds = adds_since d a k b kept adds;
  }

  -- an action was taken
  pub took_action : (v u : Values) (now : ℕ) (d : Decided) (o : Outcome) (a k b : DiskHeld D) (m l n : ModuleHeld) (t : Module) → u ≡ v → k ≡ a → IsCalm m l → (is_ready v.election.state ≡ true → t ≡ at_end m) → DecidesAction u k.kept t now d
      → IsDone d now o k.kept b.kept l n → OnAppend d (λ e. Adds state is_told is_honest e k b) → TookAction state is_told is_honest v now o a b m n
  took_action v u now d o a k b m l n t same kept calm up decides done adds =
      let is = subst (λ z. IsView decides.view z k.kept.log t) same decides.is in
      record {
        view = decides.view;
        decision = d;
        is = view_before decides.view v u a.kept k.kept t (at_end m) same (ap (λ (z : DiskHeld D). z.kept) kept) up decides.is;
        by = decided_before decides.view v k.kept.log t (at_end m) now d is up decides.by;
        done = done_since d now o a k b m l n kept calm done;
        adds = adds_since d a k b kept adds;
      }

  -- ---- what a fault of the disk cut

  tries_since : (e : Event) (a k b : DiskHeld D) → k ≡ a → Tries state is_told is_honest e k b → Tries state is_told is_honest e a b
  tries_since e a k b same tries = subst (λ (z : DiskHeld D). Tries state is_told is_honest e z b) same tries

  -- what was decided on a client's bytes was to append an event
  pub tried_client : (v u : Values) (bytes : List ℕ) (now : ℕ) (d : Decided) (a k b : DiskHeld D) (m : ModuleHeld) (t : Module) → u ≡ v → k ≡ a → (is_ready v.election.state ≡ true → t ≡ at_end m) → Decides u k.kept t bytes now d → IsTried state is_told is_honest d k b
      → Tried state is_told is_honest (λ w. IsDecided w bytes now) v m a b
  tried_client v u bytes now (decisions.Refuse refusal) a k b m t same kept up decides tried = absurd tried
  tried_client v u bytes now (decisions.Alive session) a k b m t same kept up decides tried = absurd tried
  tried_client v u bytes now (decisions.Append e) a k b m t same kept up decides tried = record {
    view = decides.view;
    event = e;
    is = view_before decides.view v u a.kept k.kept t (at_end m) same (ap (λ (z : DiskHeld D). z.kept) kept) up decides.is;
    by = decides.by;
    tries = tries_since e a k b kept tried;
  }

  -- and on an action
  pub tried_action : (v u : Values) (now : ℕ) (d : Decided) (a k b : DiskHeld D) (m : ModuleHeld) (t : Module) → u ≡ v → k ≡ a → (is_ready v.election.state ≡ true → t ≡ at_end m) → DecidesAction u k.kept t now d → IsTried state is_told is_honest d k b
      → Tried state is_told is_honest (λ w. IsDecidedAction w (at_end m) now) v m a b
  tried_action v u now (decisions.Refuse refusal) a k b m t same kept up decides tried = absurd tried
  tried_action v u now (decisions.Alive session) a k b m t same kept up decides tried = absurd tried
  tried_action v u now (decisions.Append e) a k b m t same kept up decides tried =
      let is = subst (λ z. IsView decides.view z k.kept.log t) same decides.is in
      record {
        view = decides.view;
        event = e;
        is = view_before decides.view v u a.kept k.kept t (at_end m) same (ap (λ (z : DiskHeld D). z.kept) kept) up decides.is;
        by = decided_before decides.view v k.kept.log t (at_end m) now (decisions.Append e) is up decides.by;
        tries = tries_since e a k b kept tried;
      }

  -- the entry that went to the disk is the event's
  pub went_one : (e : Event) (x : Entry) (es : Log) (a b : DiskHeld D) → es ≡ x ∷ [] → x ≡ entry_of e → Went state is_told is_honest (changes.Append es) a b → Went state is_told is_honest (changes.Append (entry_of e ∷ [])) a b
  went_one e x es a b list is went = subst (λ (zs : Log). Went state is_told is_honest (changes.Append zs) a b) (list ∙ ap (λ (y : Entry). y ∷ []) is) went

  pub done_one : (e : Event) (x : Entry) (es : Log) (a b : DiskHeld D) → es ≡ x ∷ [] → x ≡ entry_of e → Done state is_told is_honest (changes.Append es) a b → Done state is_told is_honest (changes.Append (entry_of e ∷ [])) a b
  done_one e x es a b list is done = subst (λ (zs : Log). Done state is_told is_honest (changes.Append zs) a b) (list ∙ ap (λ (y : Entry). y ∷ []) is) done

-- ---- each decision, done

pub calm_same : (m : ModuleHeld) → IsCalm m m
calm_same m = record { state = refl; consumed = refl; entries = refl; events = refl; coming = refl; alive = refl; since = refl }

pub done_refuse : (d : Decided) (now : ℕ) (r : Outcome) (a : Kept) (m : ModuleHeld) → d ≡ decisions.Refuse r → IsDone d now r a a m m
done_refuse d now r a m is = subst (λ z. IsDone z now r a a m m) (sym is) (refl, refl, calm_same m)

pub done_alive : (d : Decided) (now : ℕ) (session : ℤ) (a : Kept) (m n : ModuleHeld) → d ≡ decisions.Alive session → n ≡ record m { alive = heard session now m.alive } → IsDone d now outcome.Alive a a m n
done_alive d now session a m n is next =
    subst (λ z. IsDone z now outcome.Alive a a m n) (sym is) (
      refl,
      refl,
      record {
        state = ap (λ (x : ModuleHeld). x.state) next;
        consumed = ap (λ (x : ModuleHeld). x.consumed) next;
        entries = ap (λ (x : ModuleHeld). x.ahead.entries) next;
        events = ap (λ (x : ModuleHeld). x.ahead.events) next;
        coming = ap (λ (x : ModuleHeld). x.coming) next;
        alive = ap (λ (x : ModuleHeld). x.alive) next;
        since = ap (λ (x : ModuleHeld). x.since) next;
      },
    )

pub done_append : (d : Decided) (now : ℕ) (e : Event) (i : ℕ) (a b : Kept) (m n : ModuleHeld) → d ≡ decisions.Append e → IsAppended i e a b → HasMore e m n → IsDone d now (outcome.Accepted i) a b m n
done_append d now e i a b m n is appended more =
    subst (λ z. IsDone z now (outcome.Accepted i) a b m n) (sym is) (ap (λ k. outcome.Accepted k) appended.index, record { spelled = appended.spelled; index = refl; kept = appended.kept }, more)

-- what adds nothing to the log leaves the disk
pub nothing_new : {X : Type 0} (o : Outcome) (a b : X) → b ≡ a → OnNothingNew o (b ≡ a)
nothing_new (outcome.Accepted i) a b h = tt
nothing_new _ a b h = h

pub nothing_since : {X : Type 0} (o : Outcome) (a b c : X) → b ≡ a → OnNothingNew o (c ≡ b) → OnNothingNew o (c ≡ a)
nothing_since (outcome.Accepted i) a b c is h = tt
nothing_since _ a b c is h = h ∙ is

pub room_for : (d : Decided) (e : Event) (v : Values) (k : Kept) → d ≡ decisions.Append e → HasRoomFor d v k → HasRoom v k e
room_for d e v k is room = subst (λ z. HasRoomFor z v k) is room

-- an event was expected, and put
pub has_more : (e : Event) (x : Entry) (m l n : ModuleHeld) → x ≡ entry_of e → l ≡ record m { ahead = l.ahead; coming = Some e; latest = brought_past e m.latest } → l.ahead.entries ≡ m.ahead.entries → l.ahead.events ≡ m.ahead.events
    → n ≡ record l { ahead = n.ahead; coming = None } → n.ahead.entries ≡ l.ahead.entries ++ x ∷ [] → n.ahead.events ≡ with_coming l.coming l.ahead.events → HasMore e m n
has_more e x m l n is expected entries events put more happens = record {
  state = ap (λ (z : ModuleHeld). z.state) put ∙ ap (λ (z : ModuleHeld). z.state) expected;
  consumed = ap (λ (z : ModuleHeld). z.consumed) put ∙ ap (λ (z : ModuleHeld). z.consumed) expected;
  entries = more ∙ ap (λ z. l.ahead.entries ++ z ∷ []) is ∙ ap (λ (es : Log). es ++ entry_of e ∷ []) entries;
  events = happens ∙ ap (λ o. with_coming o l.ahead.events) (ap (λ (z : ModuleHeld). z.coming) expected) ∙ ap (λ (es : List Event). es ++ e ∷ []) events;
  coming = ap (λ (z : ModuleHeld). z.coming) put;
  alive = ap (λ (z : ModuleHeld). z.alive) put ∙ ap (λ (z : ModuleHeld). z.alive) expected;
  since = ap (λ (z : ModuleHeld). z.since) put ∙ ap (λ (z : ModuleHeld). z.since) expected;
}

-- ---- the member is brought up to its log's end

pub calm_of : (m n : ModuleHeld) → n ≡ m → IsCalm m n
calm_of m n is = subst (IsCalm m) (sym is) (calm_same m)

pub calm_up : (m n : ModuleHeld) (t : Module) → n ≡ record m { latest = Some t } → IsCalm m n
calm_up m n t is = subst (IsCalm m) (sym is) (record { state = refl; consumed = refl; entries = refl; events = refl; coming = refl; alive = refl; since = refl })

pub up_of : (m n : ModuleHeld) → n ≡ record m { latest = Some (at_end m) } → latest_of n.latest n.state ≡ at_end m
up_of m n is = ap (λ (x : ModuleHeld). latest_of x.latest x.state) is
