-- An answer that no entry owes is no record.
use Rattle.std.proofs.Common.{◌≡◌, ℕ, List, [], ◌∷◌, ◌++◌, Option, sym, ap, ◌∙◌, subst, if◌then◌else◌}
use Rattle.std.specs.Prelude.{filter, is_some}
use Rattle.std.proofs.lemmas.List.{append-nil}
use Rattle.std.proofs.lemmas.List.Elements.{filter-append}
use Rattle.std.proofs.lemmas.List.Sums.{fold-append}
use Rattle.egress.specs.Streams.{StreamSeen, sent_more}
use Rattle.egress.specs.declared.sent.Sent.{Sent}
use Rattle.service_phases.specs.Pairs.{Each2}
use Rattle.service_runs.specs.Hosts.{Output}
use Rattle.consensus_agent.specs.Accepted.{IsDirect}
use Rattle.run_orders.specs.Stands.{AreRecords, IsRecord, has_entry, more_sent}

no-entry : (s : Sent) → IsDirect s → filter has_entry (s ∷ []) ≡ []
no-entry s direct = ap (λ (o : Option ℕ). if is_some o then s ∷ [] else []) direct

pub answered-stands : (streams : List StreamSeen) (records : List Output) (s : Sent) → IsDirect s → AreRecords streams records → AreRecords (sent_more s streams) records
answered-stands streams records s direct are = record {
  all = are.all ++ s ∷ [];
  stand = ap (λ (l : List StreamSeen). sent_more s l) are.stand ∙ sym (fold-append more_sent [] are.all (s ∷ []));
  each = subst (λ (l : List Sent). Each2 IsRecord records l) (sym (filter-append has_entry are.all (s ∷ []) ∙ ap (λ (l : List Sent). filter has_entry are.all ++ l) (no-entry s direct) ∙ append-nil (filter has_entry are.all))) are.each;
}
