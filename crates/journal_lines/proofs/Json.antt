-- A string as JSON.
use Rattle.proof_prelude.proofs.{◌≡◌, ℕ, List, [], ◌∷◌, ◌++◌, ap, ◌∙◌, append-nil}
use Rattle.json.specs.Token.{Token, string}
use Rattle.json.specs.Print.{print, print_from, quoted}

quoted_alone : (s : List ℕ) → print (string s ∷ []) ≡ quoted s
quoted_alone s = unfold print_from in append-nil (quoted s)

-- what a writer of one string holds
pub text_is : (b0 b1 out json text : List ℕ) (t0 t1 : List Token) → out ≡ [] → b0 ≡ out → t0 ≡ [] → b1 ≡ b0 → t1 ≡ t0 ++ string text ∷ [] → json ≡ b1 ++ print t1 → json ≡ quoted text
text_is b0 b1 out json text t0 t1 o b t b' t' j =
    j ∙ ap (λ z. z ++ print t1) (b' ∙ b ∙ o) ∙ ap print (t' ∙ ap (λ z. z ++ string text ∷ []) t) ∙ quoted_alone text
