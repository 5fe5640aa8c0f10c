-- Laws of members and names.
use Rattle.proof_prelude.proofs.{◌≡◌, ℕ, List, [], ◌∷◌, ◌&&◌, ◌||◌, map, refl, ap, ◌∙◌, Bor, list_any, list_all, bytes_eq}
use Rattle.json_values.specs.{line_members, LineValue}
use Rattle.command_api.specs.{is_among, all_among}

-- testing references is testing what they refer to
pub is_among-refs : (key : List ℕ) (ks : List (Bor (List ℕ))) → list_any (λ k. bytes_eq key k.now) ks ≡ is_among (map (λ k. k.now) ks) key
is_among-refs key [] = refl
is_among-refs key (k ∷ ks) = ap (λ b. bytes_eq key k.now || b) (is_among-refs key ks)

-- a test of each key of an object
pub all_among-keys : (ks : List (Bor (List ℕ))) (es : List (Bor (List ℕ) × LineValue)) → list_all (λ m. list_any (λ k. bytes_eq m.0.now k.now) ks) es ≡ all_among (map (λ k. k.now) ks) (line_members es)
all_among-keys ks [] = refl
all_among-keys ks (e ∷ es) = ap (λ b. b && list_all (λ m. list_any (λ k. bytes_eq m.0.now k.now) ks) es) (is_among-refs e.0.now ks) ∙ ap (λ b. is_among (map (λ k. k.now) ks) e.0.now && b) (all_among-keys ks es)
