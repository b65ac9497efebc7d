-- What is asked of a member of a lawful world is one act of that world, or none.
use Rattle.std.proofs.Common.{◌≡◌, ◌⊎◌, inl, inr, ℕ, ◌≤◌, Bool, true, false, ◌&&◌, not, List, [], length, refl, sym, ap, ◌∙◌, arith, if◌then◌else◌}
use Rattle.std.specs.Prelude.{nat_lt}
use Rattle.std.proofs.lemmas.Bool.{and_from, cases_lt, lt-ltb}
use Rattle.std.proofs.lemmas.List.{get_or_past, length-map, set-get_or}
use Rattle.cl_base.specs.Disk.{DiskState}
use Rattle.commit_counter.specs.declared.role.Role.{Role}
use Rattle.entry_log.specs.Shape.{entry_shape}
use Rattle.sbe_events.specs.declared.event.Event.{Event}
use Rattle.service_api.specs.declared.shipped.Kind.{Kind}
use Rattle.ingress.specs.declared.decision.Decided.{Decided}
use Rattle.ingress.specs.declared.decision.Decided.TheVariants as decisions
use Rattle.module_state.specs.Entries.{IsSpellable}
use Rattle.consensus_core.specs.Member.{Sent as Packet, row_of_client, sent_by}
use Rattle.consensus_core.specs.declared.values.Values.{Values}
use Rattle.service_runs.specs.Hosts.{longer}
use Rattle.run_world.specs.Lawful.{Lawful}
use Rattle.run_world.specs.Seat.{Seat, Fate, Phase, acted, first_seat, lets_calls}
use Rattle.run_world.specs.RunWorld.{RunWorld, Asks, committed, does, hears, is_free, is_up, may_ask, put, row_at, seat}
use Rattle.run_orders.specs.Stands.{IsPhase, IsSeat, IsUp, SeatSeen, UpSeen}
use Rattle.member_rows.specs.Calls.{GoesOn}
use Rattle.member_asks.specs.Made.{Falls, Makes, MakesOne}
use Rattle.member_asks.proofs.Printing.{is-printed, prints-none}
use Rattle.member_asks.proofs.Rowed.{commits, sends-none}

-- a phase that isn't over lets calls through
lets : (going : Bool) (role : Role) (over : Bool) (p : Phase) → (going && over) ≡ false → IsPhase going role over p → lets_calls p ≡ true
lets true role over p free is = ap lets_calls is ∙ ap not free
lets false role over p free is = ap lets_calls is

-- a seat that is put where it is changes nothing
same-put : (w : RunWorld) (m : ℕ) → longer w.printed (committed (seat w m).member) ≡ w.printed → put m (seat w m) [] w ≡ w
same-put w m printed = λ i. record { now = w.now; seats = set-get_or w.seats m first_seat i; net = w.net; records = w.records; printed = printed i }

module _ {D : Type 0} (state : D → DiskState) (n : ℕ) (kinds : List Kind) (w : RunWorld) (m : ℕ) (u : UpSeen D) (going : Bool) (five : n ≤ 5) (three : length kinds ≤ 3) (lawful : Lawful n kinds w) (free : (going && u.over) ≡ false) (is : IsUp state kinds u going (seat w m)) where
  -- the member is there: no other runs
  inside : nat_lt m (length w.seats) ≡ true
  inside = elim (cases_lt m (length w.seats)) [
    | inl there ↦ lt-ltb m (length w.seats) there
    | inr past ↦ absurd (stops (ap (λ (s : Seat). s.member.up) (sym (get_or_past w.seats m first_seat past)) ∙ is.up))
  ]
    where
      stops : false ≡ true → ⊥
      stops e = cc

  is-free : is_free w m ≡ true
  is-free = and_from (is_up w m) (lets_calls (seat w m).phase) (and_from (nat_lt m (length w.seats)) (seat w m).member.up inside is.up) (lets going u.role u.over (seat w m).phase free is.phase)

  printed : longer w.printed (committed (seat w m).member) ≡ w.printed
  printed = is-printed n kinds w m five three lawful

  within : GoesOn u → (seat w m).member.values.rest.commit ≤ length (seat w m).member.durable.log
  within sound =
      let a = ap (λ (v : Values). v.rest.commit) is.values in
      let b = sound.standing.commit in
      let c = length-map u.disk.kept.log entry_shape in
      let d = ap length is.durable.log in
      omega (arith, a, b, c, d)

  -- an event's row, whatever the disk did
  pub asks-one : (e : Event) (fits : IsSpellable e) (f : Fate) (y : SeatSeen D) → GoesOn u → may_ask kinds (seat w m) w.now e ≡ true → IsSeat state kinds y (acted (row_of_client (seat w m).member e) w.now f (seat w m)) → MakesOne state kinds m w y
  asks-one e fits f y sound may here =
      let s = seat w m in
      let row = row_of_client s.member e in
      let t = acted row w.now f s in
      let none : sent_by row f.cut s.member ≡ [] = sends-none s.member e f.cut in
      let done : does kinds w (Asks m e fits f) ≡ row_at m row f w = ap (λ (b : Bool). if b then row_at m row f w else w) (and_from (is_free w m) (may_ask kinds s w.now e) is-free may) in
      let since : put m t [] w ≡ does kinds w (Asks m e fits f) = sym (done ∙ ap (λ (ps : List Packet). put m t ps w) none) in
      record {
        becomes = t;
        asked = inr (inl (e, fits, f, record { before = w; until = refl; since = since }));
        seat = here;
        prints = prints (commits s e w.now f (within sound));
      }
    where
      prints : (committed (acted (row_of_client (seat w m).member e) w.now f (seat w m)).member ≡ committed (seat w m).member) ⊎ (committed (acted (row_of_client (seat w m).member e) w.now f (seat w m)).member ≡ [])
          → longer w.printed (committed (acted (row_of_client (seat w m).member e) w.now f (seat w m)).member) ≡ w.printed
      prints (inl same) = ap (longer w.printed) same ∙ printed
      prints (inr none) = ap (longer w.printed) none ∙ prints-none w.printed

  -- what was decided on
  pub makes-one : (decision : Decided) (y : SeatSeen D) → GoesOn u → Makes state kinds decision w.now (seat w m) y → MakesOne state kinds m w y
  makes-one (decisions.Refuse refusal) y sound made = record { becomes = seat w m; asked = inl (same-put w m printed); seat = made; prints = printed }
  makes-one (decisions.Alive session) y sound made =
      let t = hears session w.now (seat w m) in
      record {
        becomes = t;
        asked = inr (inr (session, record { before = w; until = refl; since = sym (ap (λ (b : Bool). if b then put m t [] w else w) inside) }));
        seat = made;
        prints = printed;
      }
  makes-one (decisions.Append e) y sound made = asks-one e made.fits made.fate y sound made.may made.seat

  pub falls-one : (e : Event) (y : SeatSeen D) → GoesOn u → Falls state kinds w.now (seat w m) e y → MakesOne state kinds m w y
  falls-one e y sound made = asks-one e made.fits made.fate y sound made.may made.seat
