-- How a value is read, by its first token.
use Rattle.proof_prelude.proofs.{◌≡◌, ◌≢◌, ℕ, ◌-◌, ◌<◌, List, [], ◌∷◌, length, Bool, true, false, Bor, Option, Some, None, option_map, refl, ap, ◌∙◌, false≢true, true≢false}
use Rattle.json.specs.Token.{Token}
use Rattle.json.specs.Json as json
use Rattle.json.specs.Json.{parse_map, items, members, read_key, value}
use Rattle.json.specs.Reads.{token_of}
use Rattle.json.specs.declared.token.Token as reader
use Rattle.json.specs.declared.token.Token.TheVariants.{Key, String, Bad}
use Rattle.json_values.specs.{begins_key, ends_object, of_string}
use Rattle.json.proofs.Grammar.{value_is, value-begin_array, value-begin_object}
use Rattle.serde_json.specs.Data.{null, boolean, number, string, array, object, no_members}
use Rattle.serde_json.specs.Read.{of_json, of_items, of_members, converted, number_of}
use Rattle.json_values.proofs.Conversions.{converted-parse_map, converted-option_map}

module _ (depth : ℕ) (rest : List Token) where
  pub read-nothing : converted of_json (value depth []) ≡ None
  read-nothing = ap (converted of_json) (value_is depth [])

  pub read-string : (s : List ℕ) → converted of_json (value depth (Token.string s ∷ rest)) ≡ Some (string s, rest)
  read-string s = ap (converted of_json) (value_is depth (Token.string s ∷ rest))

  pub read-number : (s : List ℕ) → converted of_json (value depth (Token.number s ∷ rest)) ≡ option_map (λ d. (d, rest)) (option_map number (number_of s))
  read-number s = ap (converted of_json) (value_is depth (Token.number s ∷ rest))

  pub read-boolean : (b : Bool) → converted of_json (value depth (Token.boolean b ∷ rest)) ≡ Some (boolean b, rest)
  read-boolean b = ap (converted of_json) (value_is depth (Token.boolean b ∷ rest))

  pub read-null : converted of_json (value depth (Token.null ∷ rest)) ≡ Some (null, rest)
  read-null = ap (converted of_json) (value_is depth (Token.null ∷ rest))

  pub read-array : 0 < depth → converted of_json (value depth (Token.begin_array ∷ rest)) ≡ parse_map array (converted of_items (items (value (depth - 1)) (length rest) rest))
  read-array some =
      let inside = items (value (depth - 1)) (length rest) rest in
      ap (converted of_json) (value-begin_array depth rest some) ∙ converted-parse_map of_json json.array inside ∙ converted-option_map array of_items inside

  pub read-object : 0 < depth → converted of_json (value depth (Token.begin_object ∷ rest)) ≡ parse_map object (converted (λ ms. of_members ms no_members) (members (value (depth - 1)) (length rest) rest))
  read-object some =
      let inside = members (value (depth - 1)) (length rest) rest in
      ap (converted of_json) (value-begin_object depth rest some) ∙ converted-parse_map of_json json.object inside ∙ converted-option_map object (λ ms. of_members ms no_members) inside

pub read-deep_array : (depth : ℕ) (rest : List Token) → depth ≡ 0 → converted of_json (value depth (Token.begin_array ∷ rest)) ≡ None
read-deep_array depth rest none = unfold value in ap (λ n. converted of_json (value n (Token.begin_array ∷ rest))) none

pub read-deep_object : (depth : ℕ) (rest : List Token) → depth ≡ 0 → converted of_json (value depth (Token.begin_object ∷ rest)) ≡ None
read-deep_object depth rest none = unfold value in ap (λ n. converted of_json (value n (Token.begin_object ∷ rest))) none

-- ---- a string that is not a name, and one that is not a value

pub not_a_key : (t : reader.Token) (rest : List Token) → ((s : Bor (List ℕ)) → t ≢ Key s) → begins_key (token_of t ∷ rest) ≡ false
not_a_key (Key s) rest other = absurd (other s refl)
not_a_key _ rest other = refl

pub keyless : (t : Token) (rest : List Token) → of_string t ≡ true → begins_key (t ∷ rest) ≡ false → read_key (t ∷ rest) ≡ None
keyless (Token.key s) rest kind other = absurd (true≢false other)
keyless (Token.string s) rest kind other = refl
keyless Token.bad rest kind other = refl
keyless _ rest kind other = absurd (false≢true kind)

pub not_a_value : (t : reader.Token) (rest : List Token) → of_string (token_of t) ≡ true → ((s : Bor (List ℕ)) → t ≢ String s) → (depth : ℕ) → value depth (token_of t ∷ rest) ≡ None
not_a_value (Key s) rest kind other depth = value_is depth (Token.key s.now ∷ rest)
not_a_value (String s) rest kind other depth = absurd (other s refl)
not_a_value Bad rest kind other depth = value_is depth (Token.bad ∷ rest)
not_a_value _ rest kind other depth = absurd (false≢true kind)

abbrev named : Option (Option (List ℕ) × List Token) → Bool
named None = false
named (Some (None, ts)) = false
named (Some (Some s, ts)) = true

pub endless : (ts : List Token) → ends_object ts ≡ false → (rest : List Token) → read_key ts ≢ Some (None, rest)
endless (Token.end_object ∷ ts) none rest e = absurd (true≢false none)
endless (Token.key s ∷ ts) none rest e = true≢false (ap named e)
endless _ none rest e = cc

-- if neither a name nor an end comes next, no member does
pub neither : (ts : List Token) → begins_key ts ≡ false → ((rest : List Token) → read_key ts ≢ Some (None, rest)) → read_key ts ≡ None
neither (Token.end_object ∷ ts) other going = absurd (going ts refl)
neither (Token.key s ∷ ts) other going = absurd (true≢false other)
neither _ other going = refl
