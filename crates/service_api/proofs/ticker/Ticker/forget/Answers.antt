use Rattle.std.proofs.Common.{rules, ◌≡◌, arith, not, filter, subst, sym, ap, ◌∙◌}
use Rattle.std.specs.Ordering.{int_eq}
use Rattle.std.proofs.lemmas.Map.Made.{filter_same_pairs}
use Rattle.service_api.specs.Ticker.{forgotten, Ids}
use Rattle.service_api.specs.TickerLaws.{fit_filter}
use Rattle.service_api.proofs.ticker.Ticker.forget.Goals as goal

left : (c : goal.After-retain) → c.retain.new.self.entries ≡ forgotten c.self.inside.ids.entries c.args.session
left c = filter_same_pairs _ (λ e. not (int_eq e.1 c.args.session)) _ (λ k v b w f' t. search rules) _ _ c.retain.ensures.filtered

pub invariant_of-self : goal.invariant_of-self
invariant_of-self c = record {
  rising = c.retain.ensures.ordered;
  few = (let b = c.retain.ensures.bound in let f = c.self.invariant.few in omega arith);
  fit = rw (left c) (fit_filter _ _ c.self.invariant.fit);
}

pub returns : goal.returns
returns c = left c ∙ ap (λ (ids : Ids). forgotten ids c.args.session) c.self.view_is
