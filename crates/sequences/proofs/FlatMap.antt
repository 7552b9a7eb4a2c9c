-- Laws of `flat_map` on lists of numbers: its elements, its length, and what it depends on.
-- Assumes nothing.
use Prim.Native.Nat.{ℕ}
use mathlib.Core.{Path.◌≡◌, Path.refl, Path.sym, Path.ap, Path.◌∙◌, Logic.⊎_elim}
use mathlib.Core.List.Memᴰ
use mathlib.Core.List.{List, [], ◌∷◌, ◌++◌, append_assoc, flat_map, Memᴰ}
use native.Mathlib.Omega.{arith}
use lib.ListN.{length, length-append}
use Rattle.sequences.specs.Lists.{total}

-- What is in the list of an element is in the whole.
pub flat_map_complete : (f : ℕ → List ℕ) (l : List ℕ) (c x : ℕ) → Memᴰ c l → Memᴰ x (f c) → Memᴰ x (flat_map f l)
unfolding flat_map
flat_map_complete f [] c x m h = absurd (Memᴰ.not-nil m)
flat_map_complete f (y ∷ l) c x m h =
    ⊎_elim (λ e. Memᴰ.append_left (flat_map f l) (rw e at h)) (λ g. Memᴰ.append_right (f y) (flat_map_complete f l c x g h))
    (Memᴰ.cases_cons m)

-- What is in the whole is in the list of some element.
pub flat_map_sound : (f : ℕ → List ℕ) (l : List ℕ) (x : ℕ) → Memᴰ x (flat_map f l) → (c : ℕ) × Memᴰ c l × Memᴰ x (f c)
unfolding flat_map
flat_map_sound f [] x m = absurd (Memᴰ.not-nil m)
flat_map_sound f (y ∷ l) x m =
    ⊎_elim (λ h. (y, Memᴰ.head refl, h))
    (λ h. let r = flat_map_sound f l x h in (r.0, Memᴰ.tail r.1, r.2)) (Memᴰ.append_cases (f y) m)

-- Of two lists one after another it is the one after the other.
pub flat_map-append : {A B : Type 0} (f : A → List B) (l m : List A) → flat_map f (l ++ m) ≡ flat_map f l ++ flat_map f m
unfolding flat_map
flat_map-append f [] m = refl
flat_map-append f (x ∷ l) m = ap (λ r. f x ++ r) (flat_map-append f l m) ∙ sym (append_assoc (f x) (flat_map f l) (flat_map f m))

-- It depends on the function at the list's elements only.
pub flat_map_cong : (f g : ℕ → List ℕ) (l : List ℕ) → ((x : ℕ) → Memᴰ x l → f x ≡ g x) → flat_map f l ≡ flat_map g l
unfolding flat_map
flat_map_cong f g [] e = refl
flat_map_cong f g (x ∷ l) e =
    let here : f x ≡ g x = e x (Memᴰ.head refl) in
    let there : flat_map f l ≡ flat_map g l = flat_map_cong f g l (λ y h. e y (Memᴰ.tail h)) in rw (here, there)

-- Its length is the sum of the lengths.
pub length-flat_map : (f : ℕ → List ℕ) (l : List ℕ) → length (flat_map f l) ≡ total (λ x. length (f x)) l
unfolding flat_map total
length-flat_map f [] = refl
length-flat_map f (x ∷ l) = omega (arith, length-append (f x) (flat_map f l), length-flat_map f l)
