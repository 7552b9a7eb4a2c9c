-- Paper 01's plan 12 as a tag file, and a page of C's records over it: a count of 3 (kind 9), a first position that it has not (kind 0 and
-- number 7), no chain (kind 5), and a second position that it has not (input 1). It comes out of the definitions by computation.
-- Assumes nothing.
use Prim.Native.Nat.{ℕ}
use mathlib.Core.{Path.◌≡◌, Path.refl, List.[], List.◌∷◌}
use Rattle.tag_bytes.proofs.Plan12.{tags}
use Rattle.page.specs.Page.{page_answer_of}
use Rattle.page.proofs.Plan12 as page
use Rattle.poddreshi_reader.specs.declared.pages.PackedQuery.{PackedQuery}
use Rattle.poddreshi_reader.specs.Pages.{packed_with, packed_filled, after_packed_page}

-- A record with a number in the place for its answer.
unfoldable pub query : ℕ → ℕ → ℕ → PackedQuery
query first second answer = record { first = first; second = second; answer = answer }

pub plan_12_page : after_packed_page (page_answer_of tags) tags (query 0 5 77 ∷ query 7 8 78 ∷ query 5 6 79 ∷ query 0 7 80 ∷ [])
    ≡ query 0 5 196617 ∷ query 7 8 458752 ∷ query 5 6 5 ∷ query 0 7 4295426048 ∷ []
unfolding page.meaning tags query packed_with packed_filled after_packed_page
plan_12_page = refl

-- One byte is no tag file, and the page stays as it was.
pub left_page : after_packed_page (page_answer_of (0 ∷ [])) (0 ∷ []) (query 0 0 77 ∷ []) ≡ query 0 0 77 ∷ []
unfolding page.meaning query after_packed_page
left_page = refl
