-- What the whole guarantees: each demand as a statement over the definitions that the contracts cite. The statements are proved in
-- proofs/, under the same file names.
--
-- The notation:
--   (x : A) → B        for every x in A, B; where B is no statement, a function from A to B
--   (x : A) × B        some x in A, and B of it; without a name, A × B: A and B
--   A ↔ B              A exactly if B. A ⊎ B: A or B. A → ⊥: not A
--   a ≡ b              a equals b
--   record R where …   R holds exactly if each of its fields, the lines below it, does
--   x ∷ l, l ++ m      the list l with x in front of it; the list l and then m. [] is the empty list
--   ℕ                  the numbers 0, 1, 2, …; a difference that would lie below 0 is 0. Files, tags and tables are lists of them
--   ℤ                  the whole numbers, those below 0 among them: pos n is n, neg_ℤ (pos n) is −n; a -ℤ b: a less b; a ≤ℤ b: at most b
--   module _ (x : A) where        all that is indented below it takes x as its first argument
--   abbrev, unfoldable, pub       say how proofs may use a definition, and nothing of what it means
--   f.g               the field g of f. Names such as PairAnswer.NoChain are the answers of the code's own enums
--   Ok a, Err r       what else a call answers: a, or the refusal r. tt: that it is done, where there is no more to say
--   Some a, None      a, or nothing. Names such as built_as and reach_as are Ok of a record with these fields
--
-- What to read, in this order, and what it rests on:
--   EndToEnd  demand 3, of a call that runs all of it. It rests on chains (interval_graph/specs/Chain), windows and their bytes
--             (plan/specs/File, wire/specs/LittleEndian), overlap (overlap/specs/Overlap) and acceptance (plan/specs/Validation,
--             refusals/specs/Question), and on nothing else: tree, tags, rule and walk need no belief, since this is proved of them
--   Tree      demand 2. It rests also on interval_graph/specs/{Forest, Tree}, up to rank, on sequences/specs and on tag_bytes/specs/Fields
--   Refusals  demand 1. It rests on the questions of each call: …_questions in plan, tag_bytes, tag, short_tag, minutes, tree, even_tags,
--             reaching, path, sameness, page, changing, overlap
--   Calls     what paper 01 says of sameness and of equal tags
--   Short     paper 02, Q-1: short tags of even plans. What it says of their answers rests on nothing more; the rest of it on
--             interval_graph/specs/Tree, up to rank, and on tag_bytes/specs/Fields
--   Cases     paper 01's cases marked P, as one table
--   Minimum   paper 02, Q-2: the minimum handover. What it says of the plans of before rests on paper 01's overlap, `shares_minute`
--             (overlap/specs/Overlap)
--   Page      paper 02, Q-4: a page of pairs. It rests on page/specs/Page, and what it says of a plan's tag file on what EndToEnd rests on
--   Reach     paper 02, Q-5: reach exactly. It rests on chains (interval_graph/specs/Reach, `Farthest`), and what stays of paper 01's on
--             depth (interval_graph/specs/Forest)
--   Change    paper 02, Q-6: adding and withdrawing. It rests on changing/specs/{Change, Questions}, and what it says of tags on what Tree
--             rests on
--   Margin    paper 02, Q-7: margin between two windows. It rests on windows and overlap as EndToEnd does, and on overlap/specs/Margin
--   Ends      paper 02, Q-8: plans in seconds. It rests on what Margin and Change rest on, and on the last (interval_graph/specs/Tree)
-- Merely named, and proved right: sizes and starts (Forest), Walk, Numbers (the rule on two tags), margin_reaches and bound_of (Overlap).
pub mod EndToEnd
pub mod Tree
pub mod Refusals
pub mod Calls
pub mod Short
pub mod Cases
pub mod Minimum
pub mod Page
pub mod Reach
pub mod Change
pub mod Margin
pub mod Ends
