-- What is parsed within a number of brackets is parsed within one more.
use Rattle.proof_prelude.proofs.{◌≡◌, ℕ, zero, suc, List, [], ◌∷◌, length, refl, ap, ◌∙◌, Option, Some, None, option_and_then}
use Rattle.json.specs.Token.{Token}
use Rattle.json.specs.Json.{Json, Items, Members, Parse, parse_map, item, member, array, object, items, members, items_step, members_step, after_end_array, read_key, value, value_with}

-- if one parses something, so does the other
abbrev Within : {A : Type 0} → Parse A → Parse A → Type 0
Within {A} f g = (ts : List Token) (p : A × List Token) → f ts ≡ Some p → g ts ≡ Some p

map_within : {A B : Type 0} (h : A → B) (a b : Option (A × List Token)) → ((p : A × List Token) → a ≡ Some p → b ≡ Some p) → (q : B × List Token) → parse_map h a ≡ Some q → parse_map h b ≡ Some q
map_within h None b f q e = absurd (cc)
map_within h (Some p) b f q e = ap (parse_map h) (f p refl) ∙ e

then_within : {A B : Type 0} (a b : Option (A × List Token)) (h k : A × List Token → Option B) → ((p : A × List Token) → a ≡ Some p → b ≡ Some p) → ((p : A × List Token) (q : B) → h p ≡ Some q → k p ≡ Some q) → (q : B) → option_and_then h a ≡ Some q → option_and_then k b ≡ Some q
then_within None b h k f g q e = absurd (cc)
then_within (Some p) b h k f g q e = ap (option_and_then k) (f p refl) ∙ g p q e

items_within : (f g : Parse Json) → Within f g → (n : ℕ) → Within (items f n) (items g n)
unfolding items
items_within f g h zero ts p e = absurd (cc)
items_within f g h (suc n) ts p e = step (after_end_array ts) p (items_within f g h n) e where
  step : (o : Option (List Token)) (q : Items × List Token) → Within (items f n) (items g n) → items_step f (items f n) ts o ≡ Some q → items_step g (items g n) ts o ≡ Some q
  step (Some rest) q more e = e
  step None q more e = then_within (f ts) (g ts) (λ p. parse_map (item p.0) (items f n p.1)) (λ p. parse_map (item p.0) (items g n p.1)) (h ts) (λ p r. map_within (item p.0) (items f n p.1) (items g n p.1) (more p.1) r) q e

members_within : (f g : Parse Json) → Within f g → (n : ℕ) → Within (members f n) (members g n)
unfolding members
members_within f g h zero ts p e = absurd (cc)
members_within f g h (suc n) ts p e = step (read_key ts) p (members_within f g h n) e where
  one : (k : Option (List ℕ)) (us : List Token) (q : Members × List Token) → Within (members f n) (members g n) → members_step f (members f n) k us ≡ Some q → members_step g (members g n) k us ≡ Some q
  one None us q more e = e
  one (Some k) us q more e = then_within (f us) (g us) (λ p. parse_map (member k p.0) (members f n p.1)) (λ p. parse_map (member k p.0) (members g n p.1)) (h us) (λ p r. map_within (member k p.0) (members f n p.1) (members g n p.1) (more p.1) r) q e

  step : (o : Option (Option (List ℕ) × List Token)) (q : Members × List Token) → Within (members f n) (members g n) → option_and_then (λ p. members_step f (members f n) p.0 p.1) o ≡ Some q → option_and_then (λ p. members_step g (members g n) p.0 p.1) o ≡ Some q
  step None q more e = e
  step (Some p) q more e = one p.0 p.1 q more e

with_within : (a b : Parse Items) (o p : Parse Members) → Within a b → Within o p → Within (value_with a o) (value_with b p)
with_within a b o p f g [] q e = absurd (cc)
with_within a b o p f g (Token.begin_object ∷ ts) q e = map_within object (o ts) (p ts) (g ts) q e
with_within a b o p f g (Token.end_object ∷ ts) q e = absurd (cc)
with_within a b o p f g (Token.begin_array ∷ ts) q e = map_within array (a ts) (b ts) (f ts) q e
with_within a b o p f g (Token.end_array ∷ ts) q e = absurd (cc)
with_within a b o p f g (Token.key s ∷ ts) q e = absurd (cc)
with_within a b o p f g (Token.string s ∷ ts) q e = e
with_within a b o p f g (Token.number s ∷ ts) q e = e
with_within a b o p f g (Token.boolean b' ∷ ts) q e = e
with_within a b o p f g (Token.null ∷ ts) q e = e
with_within a b o p f g (Token.bad ∷ ts) q e = absurd (cc)

none_items : (g : Parse Items) → Within (λ ts. None) g
none_items g ts p e = absurd (cc)

none_members : (g : Parse Members) → Within (λ ts. None) g
none_members g ts p e = absurd (cc)

pub value_within : (d : ℕ) → Within (value d) (value (suc d))
unfolding value
value_within zero = with_within (λ ts. None) (λ ts. items (value zero) (length ts) ts) (λ ts. None) (λ ts. members (value zero) (length ts) ts) (none_items (λ ts. items (value zero) (length ts) ts)) (none_members (λ ts. members (value zero) (length ts) ts))
value_within (suc d) =
    with_within (λ ts. items (value d) (length ts) ts) (λ ts. items (value (suc d)) (length ts) ts) (λ ts. members (value d) (length ts) ts) (λ ts. members (value (suc d)) (length ts) ts)
    (λ ts. items_within (value d) (value (suc d)) (value_within d) (length ts) ts) (λ ts. members_within (value d) (value (suc d)) (value_within d) (length ts) ts)
