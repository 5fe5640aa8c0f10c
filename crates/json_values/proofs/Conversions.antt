-- Reading, followed by a conversion that may fail.
use Rattle.proof_prelude.proofs.{◌≡◌, List, Option, Some, None, option_map, refl, ap, ◌∙◌}
use Rattle.json.specs.Token.{Token}
use Rattle.json.specs.Json.{parse_map}
use Rattle.serde_json.specs.Read.{converted}

pub converted-parse_map : {A B D : Type 0} (f : B → Option D) (g : A → B) (o : Option (A × List Token)) → converted f (parse_map g o) ≡ converted (λ a. f (g a)) o
converted-parse_map f g None = refl
converted-parse_map f g (Some p) = refl

mapped : {B D : Type 0} (g : B → D) (rest : List Token) (x : Option B) → option_map (λ d. (d, rest)) (option_map g x) ≡ parse_map g (option_map (λ b. (b, rest)) x)
mapped g rest None = refl
mapped g rest (Some b) = refl

pub converted-option_map : {A B D : Type 0} (g : B → D) (f : A → Option B) (o : Option (A × List Token)) → converted (λ a. option_map g (f a)) o ≡ parse_map g (converted f o)
converted-option_map g f None = refl
converted-option_map g f (Some p) = mapped g p.1 (f p.0)

pub converted-same : {A B : Type 0} (f g : A → Option B) → ((a : A) → f a ≡ g a) → (o : Option (A × List Token)) → converted f o ≡ converted g o
converted-same f g same None = refl
converted-same f g same (Some p) = ap (option_map (λ b. (b, p.1))) (same p.0)

pub converted-none : {A B : Type 0} (f : A → Option B) → ((a : A) → f a ≡ None) → (o : Option (A × List Token)) → converted f o ≡ None
converted-none f none None = refl
converted-none f none (Some p) = ap (option_map (λ b. (b, p.1))) (none p.0)

-- ---- back from the conversion

-- what was read before a conversion that succeeded
abbrev pub Behind : {A B : Type 0} → (A → Option B) → Option (A × List Token) → B → List Token → Type 0
Behind {A} f o b rest = (a : A) × (o ≡ Some (a, rest)) × (f a ≡ Some b)

abbrev first : {B : Type 0} → B → Option (B × List Token) → B
first b None = b
first b (Some p) = p.0

abbrev second : {B : Type 0} → Option (B × List Token) → List Token → List Token
second None rest = rest
second (Some p) rest = p.1

behind_one : {A B : Type 0} (f : A → Option B) (a : A) (left : List Token) (x : Option B) (b : B) (rest : List Token) → f a ≡ x → option_map {U = B × List Token} (λ y. (y, left)) x ≡ Some (b, rest) → Behind f (Some (a, left)) b rest
behind_one f a left None b rest is e = absurd (cc)
behind_one f a left (Some y) b rest is e = (a, ap (λ o. Some (a, second o rest)) e, is ∙ ap (λ o. Some (first y o)) e)

pub behind : {A B : Type 0} (f : A → Option B) (o : Option (A × List Token)) (b : B) (rest : List Token) → converted f o ≡ Some (b, rest) → Behind f o b rest
behind f None b rest e = absurd (cc)
behind f (Some p) b rest e = behind_one f p.0 p.1 (f p.0) b rest refl e

no_value : {B : Type 0} (left : List Token) (x : Option B) → option_map {U = B × List Token} (λ y. (y, left)) x ≡ None → x ≡ None
no_value left None e = refl
no_value left (Some y) e = absurd (cc)

-- if the conversion of a value fails, so does the conversion of what was read
pub refused_value : {A B : Type 0} (f : A → Option B) (a : A) (left : List Token) → converted f (Some (a, left)) ≡ None → f a ≡ None
refused_value f a left e = no_value left (f a) e
