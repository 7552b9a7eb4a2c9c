-- Paper 01's cases marked P, and those of Q-2: one test over a table, and one law that turns the test into what a case says.
-- Assumes nothing.
use Prim.Native.Nat.{ℕ, ◌<◌}
use mathlib.Core.{Bool.Bool, Bool.true, Bool.false, Bool.◌&&◌, Bool.◌||◌, Path.◌≡◌, Path.refl, Path.ap, Logic.inl, Logic.inr, Logic.⊎_elim}
use mathlib.Core.List.Memᴰ
use mathlib.Core.{List.List, List.[], List.◌∷◌, List.Memᴰ}
use lib.Dec.{ltb, eqb}
use borrow.Author.Tests.{ltb-true, eqb-true}
use Rattle.sequences.proofs.Tests.{and_left, and_right, or_cases}
use Rattle.interval_graph.specs.Numbers.{Outcome, apart, no_chain, outcome, numbers_of}
use Rattle.interval_graph.specs.Walk.{climb, walk, chain_of}
use Rattle.interval_graph.proofs.Plan12.{definitions}
use Rattle.interval_graph.proofs.Rule.{outcome_apart, outcome_no_chain}
use Rattle.refusals.specs.Question.{all_yes}
use Rattle.plan.specs.File.{window_count}
use Rattle.overlap.specs.Overlap.{overlaps}
use Rattle.plan.specs.Validation.{plan_questions, AcceptedPlan}
use Rattle.overlap.proofs.Plan12.{meaning}
use Rattle.overlap.proofs.InOrder.{interval_order}
use Rattle.numbering.specs.Tables.{component_count}
use Rattle.path.specs.Chain.{chain_between}
use Rattle.demands.specs.Cases.{plan12, touching, overlapping, Case, cases, Says, CaseHolds, CasesHold}
use Rattle.demands.specs.Minimum.{three, equals, minimum_cases, MinimumCasesHold}

same_outcome : Outcome → Outcome → Bool
same_outcome (apart j) (apart k) = eqb j k
same_outcome (apart j) no_chain = false
same_outcome no_chain (apart k) = false
same_outcome no_chain no_chain = true

outcome_is : (o e : Outcome) → same_outcome o e ≡ true → o ≡ e
unfolding same_outcome
outcome_is (apart j) (apart k) t = ap apart (eqb-true j k t)
outcome_is (apart j) no_chain t = absurd (mathlib.Core.Bool.false≢true t)
outcome_is no_chain (apart k) t = absurd (mathlib.Core.Bool.false≢true t)
outcome_is no_chain no_chain t = refl

same_list : List ℕ → List ℕ → Bool
same_list [] [] = true
same_list [] (y ∷ m) = false
same_list (x ∷ l) [] = false
same_list (x ∷ l) (y ∷ m) = eqb x y && same_list l m

list_is : (l m : List ℕ) → same_list l m ≡ true → l ≡ m
unfolding same_list
list_is [] [] t = refl
list_is [] (y ∷ m) t = absurd (mathlib.Core.Bool.false≢true t)
list_is (x ∷ l) [] t = absurd (mathlib.Core.Bool.false≢true t)
list_is (x ∷ l) (y ∷ m) t =
    let head : x ≡ y = eqb-true x y (and_left (eqb x y) (same_list l m) t) in
    let tail : l ≡ m = list_is l m (and_right (eqb x y) (same_list l m) t) in
    cc

found : Case → Outcome
found c =
    outcome (numbers_of (window_count c.0) (overlaps c.0) 0 c.2) (numbers_of (window_count c.0) (overlaps c.0) 0 c.3)

test : Case → Bool
test c =
    all_yes (plan_questions c.0) && (eqb (component_count c.0) c.1 && (ltb c.2 (window_count c.0)
    && (ltb c.3 (window_count c.0) && (same_outcome (found c) c.4
    && (same_list c.5 [] || same_list (chain_between c.0 c.2 c.3) c.5)))))

tests : List Case → Bool
tests [] = true
tests (c ∷ l) = test c && tests l

-- What the definitions compute is what a case says.
case_says : (file : List ℕ) → AcceptedPlan file → (u v : ℕ) → u < window_count file → v < window_count file → (e : Outcome) →
    outcome (numbers_of (window_count file) (overlaps file) 0 u) (numbers_of (window_count file) (overlaps file) 0 v) ≡ e → Says file u v e
case_says file ok u v hu hv (apart k) o = (outcome_apart (interval_order file ok) u v 0 k hu hv).0 o
case_says file ok u v hu hv no_chain o = (outcome_no_chain (interval_order file ok) u v 0 hu hv).0 o

test_holds : (c : Case) → test c ≡ true → CaseHolds c.0 c.1 c.2 c.3 c.4 c.5
unfolding test found
test_holds c t =
    let t5 = same_list c.5 [] || same_list (chain_between c.0 c.2 c.3) c.5 in
    let t4 = same_outcome (found c) c.4 && t5 in
    let t3 = ltb c.3 (window_count c.0) && t4 in
    let t2 = ltb c.2 (window_count c.0) && t3 in
    let t1 = eqb (component_count c.0) c.1 && t2 in
    let ok = and_left (all_yes (plan_questions c.0)) t1 t in
    let h1 = and_right (all_yes (plan_questions c.0)) t1 t in
    let h2 = and_right (eqb (component_count c.0) c.1) t2 h1 in
    let h3 = and_right (ltb c.2 (window_count c.0)) t3 h2 in
    let h4 = and_right (ltb c.3 (window_count c.0)) t4 h3 in
    let hu = ltb-true _ _ (and_left (ltb c.2 (window_count c.0)) t3 h2) in
    let hv = ltb-true _ _ (and_left (ltb c.3 (window_count c.0)) t4 h3) in
    record {
      accepted = ok;
      counted = eqb-true _ _ (and_left (eqb (component_count c.0) c.1) t2 h1);
      first_window = hu;
      second_window = hv;
      count = case_says c.0 ok c.2 c.3 hu hv c.4 (outcome_is (found c) c.4 (and_left (same_outcome (found c) c.4) t5 h4));
      given =
          ⊎_elim (λ s. inl (list_is c.5 [] s)) (λ s. inr (list_is _ c.5 s))
          (or_cases (same_list c.5 []) (same_list (chain_between c.0 c.2 c.3) c.5) (and_right (same_outcome (found c) c.4) t5 h4));
    }

-- The eleven cases pass.
cases_pass : tests cases ≡ true
unfolding definitions meaning component_count climb walk chain_of chain_between plan12 touching overlapping cases tests test found same_outcome same_list
cases_pass = refl

tests_hold : (l : List Case) → tests l ≡ true → (c : Case) → Memᴰ c l → CaseHolds c.0 c.1 c.2 c.3 c.4 c.5
unfolding tests
tests_hold [] t c m = absurd (Memᴰ.not-nil m)
tests_hold (d ∷ l) t c m =
    ⊎_elim (λ e. rw e (test_holds d (and_left (test d) (tests l) t))) (λ later. tests_hold l (and_right (test d) (tests l) t) c later)
    (Memᴰ.cases_cons m)

-- All cases marked P hold.
pub cases_hold : CasesHold
cases_hold = tests_hold cases cases_pass

-- Q-2's cases pass, and so they hold.
minimum_cases_pass : tests minimum_cases ≡ true
unfolding definitions meaning component_count climb walk chain_of chain_between three equals minimum_cases tests test found same_outcome same_list
minimum_cases_pass = refl

pub minimum_cases_hold : MinimumCasesHold
minimum_cases_hold = tests_hold minimum_cases minimum_cases_pass
