-- What an order looks at, and the entry that it puts behind the log.
use Rattle.std.proofs.Common.{◌≡◌, ℕ, zero, suc, ◌≤◌, ℤ, pos, ◌≤ℤ◌, Bool, true, [], ◌∷◌, ◌++◌, length, take, refl, sym, ap, subst, ◌∙◌, arith, length-append}
use Rattle.std.specs.Prelude.{IsTrue}
use Rattle.std.proofs.lemmas.Int.{ints}
use Rattle.cl_base.specs.declared.entry.Entry.{Entry}
use Rattle.entry_log.specs.Log.{Log, end_after}
use Rattle.entry_log.specs.PlaceLaws.{end_from-up}
use Rattle.entry_log.specs.Shape.{Shape, shape_of, entry_shape, end_of, end_from, last_term_of, last_term_from}
use Rattle.election.specs.declared.member.State.{State}
use Rattle.election.specs.declared.member.State.TheVariants.{LeaderReady}
use Rattle.sbe_events.specs.Laws.{encoded}
use Rattle.sbe_events.specs.Spelling.{HasSpelling, spelling_of, term_of}
use Rattle.sbe_events.specs.declared.event.Event.{Event}
use Rattle.sbe_consensus.specs.Spelling.{IsEntry}
use Rattle.member_disk.specs.Kept.{Kept}
use Rattle.member_module.specs.Held.{Held as ModuleHeld}
use Rattle.consensus_core.specs.declared.values.Values.{Values}
use Rattle.consensus_core.specs.Fit.{IsFit, has_term, is_balloting}
use Rattle.consensus_core.specs.Member.{is_ready}
use Rattle.consensus_core.specs.Reign.{entry_of}
use Rattle.consensus_core.specs.Standing.{Standing, CanFollow}
use Rattle.consensus_core.proofs.Measured.{event_short}
use Rattle.ingress.specs.declared.view.View.{View}
use Rattle.ingress.specs.Decisions.{IsAdmitted}
use Rattle.consensus_agent.specs.Accepted.{HasRoom, IsAppended}
use Rattle.consensus_agent.specs.Rows.{IsKept}
use Rattle.consensus_agent.specs.Sound.{NamesVote, IsSound}
use Rattle.consensus_agent.proofs.Ahead.{ahead_grown}

front_from : (p n : ℕ) (xs : Shape) → end_from p (take n xs) ≤ end_from p xs
front_from p zero xs = end_from-up p xs
front_from p (suc n) [] = omega arith
front_from p (suc n) (x ∷ xs) = front_from (end_after p x.len) n xs

-- the first entries end at most where the log ends
pub front_ends : (n : ℕ) (xs : Shape) → end_of (take n xs) ≤ end_of xs
front_ends n xs = front_from 0 n xs

ready_has_term : (s : State) → is_ready s ≡ true → has_term s ≡ true
ready_has_term LeaderReady h = refl
ready_has_term _ h = absurd (cc)

-- who is ready to lead has a term
pub leads_in : (v : Values) (k : Kept) (a : Bool) (m : ModuleHeld) → IsSound v k a m → is_ready v.election.state ≡ true → pos 0 ≤ℤ v.election.term
leads_in v k a m s ready = s.fit.reigning (ready_has_term v.election.state ready)

-- ---- the entry of an order

shape_append : (xs ys : Log) → shape_of (xs ++ ys) ≡ shape_of xs ++ shape_of ys
shape_append [] ys = refl
shape_append (x ∷ xs) ys = ap (λ z. entry_shape x ∷ z) (shape_append xs ys)

end_append : (p : ℕ) (xs ys : Shape) → end_from p (xs ++ ys) ≡ end_from (end_from p xs) ys
end_append p [] ys = refl
end_append p (x ∷ xs) ys = end_append (end_after p x.len) xs ys

last_append : (t : ℤ) (xs ys : Shape) → last_term_from t (xs ++ ys) ≡ last_term_from (last_term_from t xs) ys
last_append t [] ys = refl
last_append t (x ∷ xs) ys = last_append x.term xs ys

spells : (e : Event) → HasSpelling e → IsEntry (entry_of e)
spells e h = let short = event_short (spelling_of e) e (encoded e h) in record { event = (e, encoded e h, refl); short = omega (arith, short) }

entry_room : (xs : Shape) (x : Entry) → end_after (end_of xs) (length x.bytes) ≤ 16777216 → end_of (xs ++ entry_shape x ∷ []) ≤ 16777216
entry_room xs x room = let a = end_append 0 xs (entry_shape x ∷ []) in omega (arith, a, room)

-- its entry
pub entry_is : (e : Event) (x : Entry) → x.term ≡ term_of e → x.bytes ≡ spelling_of e → x ≡ entry_of e
entry_is e x t b = λ i. record { term = t i; bytes = b i }

event_follows : (v : Values) (k : Kept) (a : Bool) (m : ModuleHeld) (e : Event) → IsSound v k a m → HasRoom v k e → HasSpelling e → CanFollow (shape_of k.log) (entry_of e ∷ [])
event_follows v k a m e s room spelled =
    let last : last_term_of (shape_of k.log) ≡ v.election.term = s.standing.leads room.leads in
    let term = room.term in record {
      some = omega arith;
      batch = refl;
      end = entry_room (shape_of k.log) (entry_of e) room.room;
      rises = (omega (arith, ints, last, term), tt);
      events = (spells e spelled, tt);
    }

-- it can follow the log
pub may_append : (v : Values) (k : Kept) (a : Bool) (m : ModuleHeld) (e : Event) (x : Entry) → IsSound v k a m → HasRoom v k e → HasSpelling e → x.term ≡ v.election.term → x.bytes ≡ spelling_of e → CanFollow (shape_of k.log) (x ∷ [])
may_append v k a m e x s room spelled term bytes = subst (λ (y : Entry). CanFollow (shape_of k.log) (y ∷ [])) (sym (entry_is e x (term ∙ sym room.term) bytes)) (event_follows v k a m e s room spelled)

event_stands : (v : Values) (k : Kept) (a : Bool) (m : ModuleHeld) (e : Event) → IsSound v k a m → HasRoom v k e → Standing v (shape_of k.log ++ entry_shape (entry_of e) ∷ [])
event_stands v k a m e s room =
    let xs = shape_of k.log in
    let last : last_term_of (xs ++ entry_shape (entry_of e) ∷ []) ≡ term_of e = last_append _ xs (entry_shape (entry_of e) ∷ []) in
    record {
      commit = (let c = s.standing.commit in let n = length-append xs (entry_shape (entry_of e) ∷ []) in omega (arith, c, n));
      place = entry_room xs (entry_of e) room.room;
      stood = λ h. absurd (let z = ap is_balloting room.leads in cc);
      elected = λ h. absurd (let z = sym room.leads ∙ h in cc);
      leads = λ h. last ∙ room.term;
    }

-- and then the member goes on
pub appended_sound : (v w : Values) (k l : Kept) (a b : Bool) (m n : ModuleHeld) (e : Event) (x : Entry) → IsSound v k a m → HasRoom v k e → x.term ≡ v.election.term → x.bytes ≡ spelling_of e → w ≡ v → IsKept k.node (k.log ++ x ∷ []) l → IsTrue b
    → n.consumed ≡ m.consumed → n.ahead.entries ≡ m.ahead.entries ++ x ∷ [] → IsSound w l b n
appended_sound v w k l a b m n e x s room term bytes same kept whole taken more =
    let is : x ≡ entry_of e = entry_is e x (term ∙ sym room.term) bytes in
    let log : l.log ≡ k.log ++ entry_of e ∷ [] = kept.log ∙ ap (λ (y : Entry). k.log ++ y ∷ []) is in
    let xs : shape_of l.log ≡ shape_of k.log ++ entry_shape (entry_of e) ∷ [] = ap shape_of log ∙ shape_append k.log (entry_of e ∷ []) in
    record {
      disk = whole;
      standing = subst (λ z. Standing z (shape_of l.log)) (sym same) (subst (Standing v) (sym xs) (event_stands v k a m e s room));
      fit = subst (λ (z : Values). IsFit z.election) (sym same) s.fit;
      vote = subst (λ z. NamesVote z l.node) (sym same) (subst (NamesVote v) (sym kept.node) s.vote);
      consumed = (let commit : w.rest.commit ≡ v.rest.commit = ap (λ (z : Values). z.rest.commit) same in let c = s.consumed in omega (arith, commit, c, taken));
      ahead = ahead_grown m n k.log l.log (x ∷ []) s.ahead taken more kept.log;
    }

ready_is : (s : State) → is_ready s ≡ true → s ≡ LeaderReady
ready_is LeaderReady h = refl
ready_is _ h = absurd (cc)

-- what was admitted has room
pub admitted_room : (v : Values) (k : Kept) (w : View) (actions now : ℕ) (e : Event) → IsAdmitted w actions now e → w.ready ≡ is_ready v.election.state → w.term ≡ v.election.term → w.place ≡ end_of (shape_of k.log) → HasRoom v k e
admitted_room v k w actions now e admitted ready term place = record {
  leads = ready_is v.election.state (sym ready ∙ admitted.leads);
  term = admitted.term ∙ term;
  room = subst (λ p. end_after p (length (spelling_of e)) ≤ 16777216) place admitted.place;
}

-- the entry of an order is at its index
pub appended : (i : ℕ) (v : Values) (a b : Kept) (e : Event) (x : Entry) → HasRoom v a e → HasSpelling e → i ≡ length a.log → x.term ≡ v.election.term → x.bytes ≡ spelling_of e → IsKept a.node (a.log ++ x ∷ []) b → IsAppended i e a b
appended i v a b e x room spelled index term bytes kept =
    let is : x ≡ entry_of e = entry_is e x (term ∙ sym room.term) bytes in
    record { spelled = spelled; index = index; kept = record { node = kept.node; log = kept.log ∙ ap (λ (y : Entry). a.log ++ y ∷ []) is } }
