-- Demand 3: the theory of `interval_graph` at the overlap of an accepted plan, through the tags that build writes and the chain that
-- the plan answers with.
-- Assumes nothing.
use Rattle.std.specs.Prelude.{Ok, Err, Some, None, Option, Result}
use Prim.Native.Nat.{ℕ, suc, ◌≤◌, ◌<◌}
use mathlib.Core.{Bool.true, Bool.false, Bool.◌&&◌, Path.◌≡◌, Path.refl, Path.sym, Path.ap, Path.◌∙◌, Logic.◌↔◌, Logic.⊎_elim, List.List}
use mathlib.Core.{List.[], List.◌∷◌}
use native.Mathlib.Omega.{arith}
use lib.ListN.{length, take}
use lib.Dec.{eqb, leb}
use borrow.Author.Tests.{eqb-true, eq-eqb, leb-true, leb-false, le-leb, lt-ltb}
use Rattle.sequences.proofs.Tests.{truth, and_left, and_right, cond_cases, equal_or_not}
use Rattle.sequences.proofs.Table.{take_overwritten}
use Rattle.interval_graph.specs.Order.{IntervalOrder}
use Rattle.interval_graph.specs.Chain.{handovers, Joined, LeastHandovers}
use Rattle.interval_graph.specs.Tree.{root, component, rank}
use Rattle.interval_graph.specs.Numbers.{Numbers, numbers_of, Outcome, apart, no_chain, outcome}
use Rattle.interval_graph.proofs.Outcome.{equal_refl}
use Rattle.interval_graph.proofs.Rule.{outcome_apart, outcome_no_chain, same_window}
use Rattle.interval_graph.proofs.ShortestChain.{chain_least, chain_earliest_shortest, chain_first}
use Rattle.interval_graph.proofs.ShortestChain.{least_is_chain, chain_empty_iff_apart, root_joined, joined_root}
use Rattle.refusals.specs.Question.{refusal_by, first_no, room_question}
use Rattle.refusals.specs.declared.refusal.Refusal.{Refusal}
use Rattle.plan.specs.File.{plan_number, window_count}
use Rattle.overlap.specs.Overlap.{overlaps}
use Rattle.plan.specs.Validation.{AcceptedPlan, validate_answer_of}
use Rattle.plan.proofs.Acceptance.{accepted_validated}
use Rattle.overlap.proofs.InOrder.{interval_order}
use Rattle.plan.proofs.Calls.{plan_accepted}
use Rattle.tag.specs.declared.pairs.PairAnswer.{PairAnswer}
use Rattle.tag.specs.Pairing.{agreeing, answer_of, compared_by, pair_answer_of}
use Rattle.tag.proofs.Pairing.{pair_tag_file}
use Rattle.numbering.specs.Tables.{numbers_at}
use Rattle.path.specs.Chain.{chain_between, chain_questions, chain_found, chain_answer_of, after_chain}
use Rattle.demands.specs.EndToEnd.{Answered, tag_at, Demand3}
use Rattle.demands.proofs.Refusals.{outcome_answered}
use Rattle.demands.proofs.Tree.{window_within}

-- An answer names the rule's outcome.
answer_count : (o : Outcome) (k : ℕ) → (answer_of o ≡ PairAnswer.Handovers k) ↔ (o ≡ apart k)
answer_count (apart j) k = (λ e. let same : j ≡ k = cc in ap apart same, λ e. let same : j ≡ k = cc in ap PairAnswer.Handovers same)
answer_count no_chain k = (λ e. let z : ◌≡◌ {A = ℕ} 0 1 = cc in absurd (omega arith), λ e. let z : ◌≡◌ {A = ℕ} 0 1 = cc in absurd (omega arith))

answer_none : (o : Outcome) → (answer_of o ≡ PairAnswer.NoChain) ↔ (o ≡ no_chain)
answer_none (apart j) = (λ e. let z : ◌≡◌ {A = ℕ} 0 1 = cc in absurd (omega arith), λ e. let z : ◌≡◌ {A = ℕ} 0 1 = cc in absurd (omega arith))
answer_none no_chain = (λ e. refl, λ e. refl)

-- What is found of a chain: how many entries it has, or that it is empty.
found_some : (l : List ℕ) → (l ≡ [] → ⊥) → chain_found l ≡ Ok (Some (length l))
unfolding chain_found
found_some [] some = absurd (some refl)
found_some (x ∷ l) some = refl

found_none : (l : List ℕ) → chain_found l ≡ Ok None → l ≡ []
unfolding chain_found
found_none [] e = refl
found_none (x ∷ l) e = let z : ◌≡◌ {A = ℕ} 0 1 = cc in absurd (omega arith)

found_count : (l : List ℕ) (entries : ℕ) → chain_found l ≡ Ok (Some entries) → entries ≡ length l
unfolding chain_found
found_count [] entries e = let z : ◌≡◌ {A = ℕ} 0 1 = cc in absurd (omega arith)
found_count (x ∷ l) entries e = cc

chain_some : (l : List ℕ) → (l ≡ [] → ⊥) → 0 < length l
chain_some [] some = absurd (some refl)
chain_some (x ∷ l) some = omega arith

module _ (file : List ℕ) (ok : AcceptedPlan file) (u v : ℕ) (hu : u < window_count file) (hv : v < window_count file) where
  order : IntervalOrder (window_count file) (overlaps file)
  order = interval_order file ok

  -- Question 12 passes for two windows of one plan, by tags of either form: windows of one component and rank are one window.
  pub agree : (of : ℕ → Numbers) → ((w : ℕ) → (of w).component ≡ component (overlaps file) w) →
      ((w : ℕ) → (of w).rank ≡ rank (window_count file) (overlaps file) w) → agreeing (of u) (of v) ≡ true
  unfolding agreeing
  agree of components ranks =
      cond_cases (λ b. b ≡ true) (eqb (of u).component (of v).component && eqb (of u).rank (of v).rank)
      (λ t.
      let one : u ≡ v = same_window order u v hu hv (sym (components u) ∙ (eqb-true _ _ (and_left _ _ t) ∙ components v))
      (sym (ranks u) ∙ (eqb-true _ _ (and_right (eqb (of u).component (of v).component) _ t) ∙ ranks v)) in
      rw one (equal_refl (of v))) (λ t. refl)

  -- So the answer from the two tags is what the rule says.
  pub pair_rule : pair_answer_of (tag_at file u) (tag_at file v)
      ≡ answer_of (outcome (numbers_of (window_count file) (overlaps file) (plan_number file) u)
      (numbers_of (window_count file) (overlaps file) (plan_number file) v))
  unfolding tag_at numbers_at numbers_of compared_by
  pair_rule =
      pair_tag_file (numbers_at file) (window_count file) u v hu hv (window_within file ok u hu) (window_within file ok v hv)
      ∙ rw (eq-eqb (plan_number file) (plan_number file) refl, agree (numbers_at file) (λ w. refl) (λ w. refl))

  -- The chain call asks only for room.
  chain_asked : (room : ℕ) → chain_answer_of file u v room
      ≡ first_no (room_question (length (chain_between file u v)) room ∷ []) Err (chain_found (chain_between file u v))
  unfolding chain_answer_of chain_questions
  chain_asked room =
      sym (plan_accepted file _ Err (chain_found (chain_between file u v)) (validate_answer_of file) refl _ _ (accepted_validated file ok))
      ∙ rw (lt-ltb u (window_count file) hu, lt-ltb v (window_count file) hv)

  -- Where the table holds the chain, the answer is what is found of it; where it does not, the answer is a refusal.
  chain_roomy : (room : ℕ) → length (chain_between file u v) ≤ room → chain_answer_of file u v room ≡ chain_found (chain_between file u v)
  chain_roomy room fits = chain_asked room ∙ rw (le-leb (length (chain_between file u v)) room fits)

  chain_short : (room : ℕ) → leb (length (chain_between file u v)) room ≡ false → chain_answer_of file u v room ≡ Err (refusal_by 8)
  chain_short room short = chain_asked room ∙ rw short

  empty_apart : (chain_between file u v ≡ []) ↔ (Joined (window_count file) (overlaps file) u v → ⊥)
  unfolding chain_between
  empty_apart = chain_empty_iff_apart order u v hu hv

  -- What is answered, and the table afterwards.
  module _ (before out : List ℕ) (pair : PairAnswer) (chain : Result (Option ℕ) Refusal) (paired : pair ≡ pair_answer_of (tag_at file u) (tag_at file v))
      (chained : chain ≡ chain_answer_of file u v (length before)) (after : out ≡ after_chain chain (chain_between file u v) before) where
    counting : (k : ℕ) → (pair ≡ PairAnswer.Handovers k) ↔ LeastHandovers (window_count file) (overlaps file) u v k
    counting k =
        let rule = outcome_apart order u v (plan_number file) k hu hv in
        let same = paired ∙ pair_rule in
        (λ e. rule.0 ((answer_count _ k).0 (sym same ∙ e)), λ least. same ∙ (answer_count _ k).1 (rule.1 least))

    -- The chain is found where there is room for it.
    roomy : length (chain_between file u v) ≤ length before → chain ≡ chain_found (chain_between file u v)
    roomy fits = chained ∙ chain_roomy (length before) fits

    -- A chain that was answered was found, and stands at the front of the table.
    entries_are : (entries : ℕ) → chain ≡ Ok (Some entries) → entries ≡ length (chain_between file u v)
    entries_are entries e =
        ⊎_elim (λ t. found_count (chain_between file u v) entries (sym (roomy (leb-true _ _ t)) ∙ e))
        (λ t. let z : ◌≡◌ {A = ℕ} 0 1 = cc (chain_short (length before) t) in absurd (omega arith))
        (truth (leb (length (chain_between file u v)) (length before)))

    written : (entries : ℕ) → chain ≡ Ok (Some entries) → take entries out ≡ chain_between file u v
    unfolding after_chain
    written entries e = rw (entries_are entries e, after, e) (take_overwritten before (chain_between file u v))

    -- No chain is answered exactly if there is none: it is answered whatever the room.
    none_found : chain ≡ Ok None → chain_between file u v ≡ []
    none_found e =
        ⊎_elim (λ t. found_none (chain_between file u v) (sym (roomy (leb-true _ _ t)) ∙ e))
        (λ t. let z : ◌≡◌ {A = ℕ} 0 1 = cc (chain_short (length before) t) in absurd (omega arith))
        (truth (leb (length (chain_between file u v)) (length before)))

    found_nothing : chain_between file u v ≡ [] → chain ≡ Ok None
    unfolding chain_found
    found_nothing e = roomy (rw e (omega arith)) ∙ ap chain_found e

    -- A chain that was answered joins the two.
    joined : (entries : ℕ) → chain ≡ Ok (Some entries) → Joined (window_count file) (overlaps file) u v
    joined entries e =
        ⊎_elim (root_joined order u v hu hv) (λ other.
        let none = found_nothing (empty_apart.1 (λ j. other (joined_root order u v j))) in
        let z : ◌≡◌ {A = ℕ} 0 1 = cc in
        absurd (omega arith)) (equal_or_not (root (overlaps file) u) (root (overlaps file) v))

    -- A chain of k handovers has k + 1 entries.
    chain_long : (k : ℕ) → pair ≡ PairAnswer.Handovers k → length (chain_between file u v) ≡ suc k
    unfolding chain_between handovers
    chain_long k e =
        let least = (counting k).0 e in
        let some = chain_some (chain_between file u v) (λ none. empty_apart.0 none (least.attained.0, least.attained.1)) in
        omega (arith, least_is_chain order u v k hu hv least)

    given : (k : ℕ) → pair ≡ PairAnswer.Handovers k → k < length out → chain ≡ Ok (Some (suc k))
    unfolding after_chain
    given k e room =
        ⊎_elim
        (λ t. roomy (leb-true _ _ t) ∙ (found_some (chain_between file u v) (λ none. absurd (omega (arith, chain_long k e, ap (length {A = ℕ}) none)))
        ∙ ap (λ n. Ok (Some n)) (chain_long k e)))
        (λ t. let left : out ≡ before = rw (chained ∙ chain_short (length before) t) at after in
        absurd (omega (arith, leb-false (length (chain_between file u v)) (length before) t, chain_long k e, ap (length {A = ℕ}) left)))
        (truth (leb (length (chain_between file u v)) (length before)))

    pub answered : Answered file u v pair chain out
    unfolding chain_between
    answered =
        let same = paired ∙ pair_rule in
        let apart-rule = outcome_no_chain order u v (plan_number file) hu hv in
        record {
          counted = counting;
          count_given = λ j. (handovers (chain_between file u v), (counting _).1 (chain_least order u v hu hv j));
          not_refused = λ r e. outcome_answered _ r (sym same ∙ e);
          chain_given = given;
          chain_counted =
              λ entries k e f. omega (arith, ap handovers (written entries e), least_is_chain order u v k hu hv ((counting k).0 f));
          chain_from_later = λ entries e. rw (written entries e) (chain_first order u v hu hv (joined entries e));
          chain_earliest = λ entries e. rw (written entries e) (chain_earliest_shortest order u v hu hv (joined entries e));
          tags_apart = (λ e. apart-rule.0 ((answer_none _).0 (sym same ∙ e)), λ none. same ∙ (answer_none _).1 (apart-rule.1 none));
          plan_apart = (λ e. empty_apart.0 (none_found e), λ none. found_nothing (empty_apart.1 none));
        }

pub demand_3 : Demand3
demand_3 file ok u v hu hv before = answered file ok u v hu hv before _ _ _ refl refl refl
