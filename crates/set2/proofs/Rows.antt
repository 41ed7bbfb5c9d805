-- What a list filled up with 0 has at a code.
use Rattle.std.proofs.Common.{◌≡◌, ℕ, zero, suc, List, [], ◌∷◌, ◌++◌, get_or, replicate, refl}

-- nothing but 0 stands in zeros, nor past their end
zeros : (n code : ℕ) → ◌≡◌ {A = ℕ} (get_or (replicate n 0) code 0) 0
zeros zero code = refl
zeros (suc n) zero = refl
zeros (suc n) (suc code) = zeros n code

-- zeros after a list change nothing
pub filled_same : (n : ℕ) (keys : List ℕ) (code : ℕ) → get_or (keys ++ replicate n 0) code 0 ≡ get_or keys code 0
filled_same n [] code = zeros n code
filled_same n (k ∷ ks) zero = refl
filled_same n (k ∷ ks) (suc code) = filled_same n ks code
