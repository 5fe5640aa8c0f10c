-- Appending piece by piece.
use Rattle.proof_prelude.proofs.{◌≡◌, List, [], ◌++◌, ℕ, ◌∷◌, sym, ap, ◌∙◌, append_assoc}

-- one more piece is written, and one fewer remains
pub moved : (out new piece before left all : List ℕ) → new ≡ out ++ piece → before ≡ piece ++ left → out ++ before ≡ all → new ++ left ≡ all
moved out new piece before left all pushed split whole = ap (λ l. l ++ left) pushed ∙ append_assoc out piece left ∙ ap (λ l. out ++ l) (sym split) ∙ whole

-- an item after its comma
pub item_pieces : (out comma value left : List ℕ) {a b : List ℕ} → a ≡ out ++ comma → b ≡ a ++ value → b ++ left ≡ out ++ (comma ++ (value ++ left))
item_pieces out comma value left e f = ap (λ l. l ++ left) (f ∙ ap (λ l. l ++ value) e) ∙ append_assoc (out ++ comma) value left ∙ append_assoc out comma (value ++ left)

-- a member after its comma
pub member_pieces : (out comma name value left : List ℕ) {a b : List ℕ} → a ≡ out ++ (comma ++ (name ++ 58 ∷ [])) → b ≡ a ++ value → b ++ left ≡ out ++ (comma ++ (name ++ 58 ∷ (value ++ left)))
member_pieces out comma name value left e f =
    ap (λ l. l ++ left) (f ∙ ap (λ l. l ++ value) e) ∙ append_assoc (out ++ (comma ++ (name ++ 58 ∷ []))) value left ∙ append_assoc out (comma ++ (name ++ 58 ∷ [])) (value ++ left)
    ∙ ap (λ l. out ++ l) (append_assoc comma (name ++ 58 ∷ []) (value ++ left) ∙ ap (λ l. comma ++ l) (append_assoc name (58 ∷ []) (value ++ left)))

-- the last member
pub member_put : (out comma name value : List ℕ) {a b : List ℕ} → a ≡ out ++ (comma ++ (name ++ 58 ∷ [])) → b ≡ a ++ value → b ≡ out ++ (comma ++ (name ++ 58 ∷ value))
member_put out comma name value e f =
    f ∙ ap (λ l. l ++ value) e ∙ append_assoc out (comma ++ (name ++ 58 ∷ [])) value
    ∙ ap (λ l. out ++ l) (append_assoc comma (name ++ 58 ∷ []) value ∙ ap (λ l. comma ++ l) (append_assoc name (58 ∷ []) value))
