-- Packets and records that a member gives.
use Rattle.std.proofs.Common.{◌≡◌, ℕ, Bool, List, [], ◌∷◌, ◌++◌, map, Option, Some, refl, sym, ap, ◌∙◌, subst, if◌then◌else◌}
use Rattle.std.specs.Prelude.{filter, fold, is_some}
use Rattle.std.proofs.lemmas.List.Elements.{filter-append}
use Rattle.std.proofs.lemmas.List.Sums.{fold-append}
use Rattle.egress.specs.Streams.{StreamSeen}
use Rattle.egress.specs.declared.sent.Sent.{Sent}
use Rattle.consensus_core.specs.Member.{Sent as Packet, spelled_packet}
use Rattle.network.specs.Net.{NetSeen, sent}
use Rattle.service_phases.specs.Pairs.{Each2}
use Rattle.service_runs.specs.Hosts.{Output}
use Rattle.run_outside.specs.Gives.{with_packets, with_records}
use Rattle.run_world.specs.RunWorld.{all_sent}
use Rattle.run_orders.specs.Stands.{AreRecords, IsRecord, has_entry, more_sent}

pub packets-sent : (from : ℕ) (packets : List Packet) (net : NetSeen) → with_packets from (map spelled_packet packets) net ≡ all_sent from packets net
packets-sent from [] net = refl
packets-sent from (p ∷ ps) net = packets-sent from ps (sent from (spelled_packet p) net)

pub records-folded : (records : List Sent) (streams : List StreamSeen) → with_records records streams ≡ fold more_sent streams records
records-folded records streams = refl

-- each record of an output has an entry
all-kept : (outputs : List Output) (records : List Sent) → Each2 IsRecord outputs records → filter has_entry records ≡ records
all-kept [] [] each = refl
all-kept [] (s ∷ ss) each = absurd each
all-kept (o ∷ os) [] each = absurd each
all-kept (o ∷ os) (s ∷ ss) each =
    ap (λ (e : Option ℕ). if is_some e then s ∷ filter has_entry ss else filter has_entry ss) each.0.entry ∙ ap (λ (l : List Sent). s ∷ l) (all-kept os ss each.1)

each-append : (outputs more : List Output) (first records : List Sent) → Each2 IsRecord outputs first → Each2 IsRecord more records → Each2 IsRecord (outputs ++ more) (first ++ records)
each-append [] more [] records each each' = each'
each-append [] more (s ∷ ss) records each each' = absurd each
each-append (o ∷ os) more [] records each each' = absurd each
each-append (o ∷ os) more (s ∷ ss) records each each' = (each.0, each-append os more ss records each.1 each')

pub records-stand : (streams : List StreamSeen) (outputs more : List Output) (records : List Sent) → AreRecords streams outputs → Each2 IsRecord more records → AreRecords (with_records records streams) (outputs ++ more)
records-stand streams outputs more records are each = record {
  all = are.all ++ records;
  stand = ap (λ (l : List StreamSeen). with_records records l) are.stand ∙ sym (fold-append more_sent [] are.all records);
  each = subst (λ (l : List Sent). Each2 IsRecord (outputs ++ more) l) (sym (filter-append has_entry are.all records ∙ ap (λ (l : List Sent). filter has_entry are.all ++ l) (all-kept more records each)))
      (each-append outputs more (filter has_entry are.all) records are.each each);
}
