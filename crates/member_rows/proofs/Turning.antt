-- A call of a member, as an act.
use Rattle.std.proofs.Common.{◌≡◌, ◌⊎◌, inl, inr, ℕ, ◌<◌, Bool, true, false, ◌&&◌, List, [], length, map, take, Option, Some, None, refl, sym, ap, ◌∙◌, subst, arith, if◌then◌else◌}
use Rattle.std.specs.Prelude.{nat_lt}
use Rattle.std.proofs.lemmas.Bool.Decides.{nat_tests}
use Rattle.cl_base.specs.Disk.{DiskState}
use Rattle.cl_base.specs.declared.disk.Choice.{Choice}
use Rattle.entry_log.specs.Log.{Log}
use Rattle.sbe_consensus.specs.Spelling.{packet_of}
use Rattle.sbe_consensus.specs.declared.packet.Outgoing.{Outgoing}
use Rattle.sbe_consensus.specs.declared.packet.Packet.{Packet}
use Rattle.service_api.specs.declared.shipped.Kind.{Kind}
use Rattle.consensus_core.specs.declared.row.Row.{Row}
use Rattle.consensus_core.specs.declared.values.Values.{Values}
use Rattle.consensus_core.specs.Member.{Cut, Before, After, row_of_duty, row_of_packet, sent_by, spelled_packet}
use Rattle.network.specs.Net.{coming, first_of, taken}
use Rattle.run_world.specs.Seat.{Fate, Phase, acted, lets_calls}
use Rattle.run_world.specs.RunWorld.{RunWorld, Act, Hands, Duty, committed, does, due_at, handed, is_free, row_at, seat, takes_packet, with_net}
use Rattle.run_orders.specs.Stands.{EndedSeen, IsPhase, IsSeat, IsUp, RunSeen, SeatSeen, Stands, UpSeen, seen_put}
use Rattle.run_orders.proofs.Standing.{put-stands}
use Rattle.member_rows.specs.Places.{ActedCut, ActedWhole, running_seat, stopped_seat}
use Rattle.member_rows.specs.Turns.{IsTurn, committed_seen, seen_taken}

both : (a b c : Bool) → a ≡ true → b ≡ true → c ≡ true → ((a && b) && c) ≡ true
both true true true a b c = refl
both true true false a b c = absurd (cc)
both true false c a b e = absurd (cc)
both false b c a e f = absurd (cc)

-- ---- what an act is

-- the world once the network's next packet was taken
abbrev pub without : RunWorld → RunWorld
without w = with_net (taken w.net) w

module _ (kinds : List Kind) where
  pub duty-is : (w : RunWorld) (m : ℕ) → is_free w m ≡ true → (f : Fate) → does kinds w (Duty m f) ≡ row_at m (row_of_duty (seat w m).member (due_at kinds (seat w m) w.now) w.now) f w
  duty-is w m free f = ap (λ (b : Bool). if b then row_at m (row_of_duty (seat w m).member (due_at kinds (seat w m) w.now) w.now) f w else w) free

  hands-is : (w : RunWorld) (q : ℕ × Outgoing) (o : Option Packet) → first_of (coming w.net) ≡ Some q → packet_of q.1.bytes ≡ o → (f : Fate) → does kinds w (Hands f) ≡ takes_packet q.1.to o f (without w)
  hands-is w q o first read f = ap (λ (z : Option (ℕ × Outgoing)). handed z f (without w)) first ∙ ap (λ (z : Option Packet). takes_packet q.1.to z f (without w)) read

  pub packet-is : (w : RunWorld) (q : ℕ × Outgoing) (p : Packet) → first_of (coming w.net) ≡ Some q → packet_of q.1.bytes ≡ Some p → is_free w q.1.to ≡ true
      → (f : Fate) → does kinds w (Hands f) ≡ row_at q.1.to (row_of_packet (seat w q.1.to).member p w.now) f (without w)
  packet-is w q p first read free f =
      hands-is w q (Some p) first read f ∙ ap (λ (b : Bool). if b then row_at q.1.to (row_of_packet (seat w q.1.to).member p w.now) f (without w) else without w) free

  lost-is : (w : RunWorld) (q : ℕ × Outgoing) (o : Option Packet) (f : Fate) → is_free w q.1.to ≡ false → takes_packet q.1.to o f (without w) ≡ without w
  lost-is w q None f lost = refl
  lost-is w q (Some p) f lost = ap (λ (b : Bool). if b then row_at q.1.to (row_of_packet (seat w q.1.to).member p w.now) f (without w) else without w) lost

module _ {D : Type 0} (state : D → DiskState) (kinds : List Kind) where
  lets : (going over : Bool) (u : UpSeen D) (p : Phase) → IsPhase going u.role over p → (going && over) ≡ false → lets_calls p ≡ true
  lets true true u p is free = absurd (cc)
  lets true false u p is free = ap lets_calls is
  lets false over u p is free = ap lets_calls is

  pub is-free : (w : RunWorld) (m : ℕ) (u : UpSeen D) (going : Bool) → m < length w.seats → IsUp state kinds u going (seat w m) → (going && u.over) ≡ false → is_free w m ≡ true
  is-free w m u going l up free = both (nat_lt m (length w.seats)) (seat w m).member.up (lets_calls (seat w m).phase) (grind (arith, nat_tests, l)) up.up (lets going u.over u (seat w m).phase up.phase free)

  -- ---- a row of a member, of the world as it is once its packet was taken

  module _ (x : RunSeen D) (w w' : RunWorld) (act : Fate → Act) (m : ℕ) (row : Row) (stands : Stands state kinds x w') (is : (f : Fate) → does kinds w (act f) ≡ row_at m row f w') where
    there : (f : Fate) (y : SeatSeen D) (log : Log) → IsSeat state kinds y (acted row w'.now f (seat w' m)) → committed (acted row w'.now f (seat w' m)).member ≡ log
        → Stands state kinds (seen_put m y (sent_by row f.cut (seat w' m).member) log x) (does kinds w (act f))
    there f y log here same =
        subst (Stands state kinds (seen_put m y (sent_by row f.cut (seat w' m).member) log x)) (sym (is f))
        (subst (λ (l : Log). Stands state kinds (seen_put m y (sent_by row f.cut (seat w' m).member) l x) (row_at m row f w')) same
        (put-stands D state kinds x w' m y (acted row w'.now f (seat w' m)) (sent_by row f.cut (seat w' m).member) stands here))

    pub whole-turn : (v : UpSeen D) (going : Bool) (choice : Choice) (ended : List EndedSeen) (out : List Outgoing) → ActedWhole state kinds row w'.now (seat w' m) out (running_seat choice ended v going)
        → IsTurn state kinds act m (running_seat choice ended v going) (committed_seen v) out x w
    whole-turn v going choice ended out a =
        let up : IsUp state kinds v going (acted row w'.now a.fate (seat w' m)) = a.seat.home in
        let log : committed (acted row w'.now a.fate (seat w' m)).member ≡ committed_seen v =
        ap (λ (l : Log). take (acted row w'.now a.fate (seat w' m)).member.values.rest.commit l) up.durable.log ∙ ap (λ (vs : Values). take vs.rest.commit v.disk.kept.log) (sym up.values) in
        record {
          fate = a.fate;
          sent = sent_by row a.fate.cut (seat w' m).member;
          spelled = a.sent ∙ ap (λ (c : Cut). map spelled_packet (sent_by row c (seat w' m).member)) (sym a.cut);
          stands = there a.fate (running_seat choice ended v going) (committed_seen v) a.seat log;
        }

    silent : (c : Cut) → (c ≡ Before) ⊎ (c ≡ After) → [] ≡ map spelled_packet (sent_by row c (seat w' m).member)
    silent c (inl e) = ap (λ (d : Cut). map spelled_packet (sent_by row d (seat w' m).member)) (sym e)
    silent c (inr e) = ap (λ (d : Cut). map spelled_packet (sent_by row d (seat w' m).member)) (sym e)

    pub cut-turn : (v : UpSeen D) (going : Bool) (ended : List EndedSeen) (disk : D) → ActedCut state kinds row w'.now (seat w' m) (stopped_seat ended v going disk) → IsTurn state kinds act m (stopped_seat ended v going disk) [] [] x w
    cut-turn v going ended disk a = record {
      fate = a.fate;
      sent = sent_by row a.fate.cut (seat w' m).member;
      spelled = silent a.fate.cut a.cut;
      stands = there a.fate (stopped_seat ended v going disk) [] a.seat (ap committed a.seat.home.member);
    }

  -- ---- a packet

  pub taken-stands : (x : RunSeen D) (w : RunWorld) → Stands state kinds x w → Stands state kinds (seen_taken x) (without w)
  taken-stands x w s = record { now = s.now; seats = s.seats; net = ap taken s.net; records = s.records; printed = s.printed }

  pub none-stands : (x : RunSeen D) (w : RunWorld) (q : ℕ × Outgoing) (f : Fate) → first_of (coming w.net) ≡ Some q → packet_of q.1.bytes ≡ None → Stands state kinds x w → Stands state kinds (seen_taken x) (does kinds w (Hands f))
  none-stands x w q f first read s = subst (Stands state kinds (seen_taken x)) (sym (hands-is kinds w q None first read f)) (taken-stands x w s)

  pub lost-stands : (x : RunSeen D) (w : RunWorld) (q : ℕ × Outgoing) (f : Fate) → first_of (coming w.net) ≡ Some q → is_free w q.1.to ≡ false → Stands state kinds x w → Stands state kinds (seen_taken x) (does kinds w (Hands f))
  lost-stands x w q f first lost s =
      subst (Stands state kinds (seen_taken x)) (sym (hands-is kinds w q (packet_of q.1.bytes) first refl f ∙ lost-is kinds w q (packet_of q.1.bytes) f lost)) (taken-stands x w s)
