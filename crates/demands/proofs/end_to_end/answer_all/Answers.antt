-- `demands::end_to_end::answer_all` meets its contract: what the two calls answer, and demand 3 of it.
use mathlib.Core.Path.{◌∙◌}
use Rattle.demands.proofs.Counts.{answered}
use Rattle.demands.proofs.Running.{paired_windows}
use Rattle.demands.proofs.end_to_end.answer_all.Goals as goal

pub returns-clause-answered : goal.returns-clause-answered
returns-clause-answered c = λ ok hu hv. answered _ ok _ _ hu hv _ _ _ _ (c.pair_from_plan-pair.ensures ∙ paired_windows _ ok _ _ hu hv) c.chain-chain.ensures.value c.chain-chain.ensures.out_after
