-- Lists and objects, one step of the grammar at a time, under the conversion to data.
use Rattle.proof_prelude.proofs.{◌≡◌, ℕ, zero, suc, ◌-◌, ◌<◌, ◌≤◌, List, length, Option, Some, None, option_map, option_and_then, refl, ap, ◌∙◌}
use Rattle.json.specs.Token.{Token}
use Rattle.json.specs.Json as json
use Rattle.json.specs.Json.{Parse, parse_map, after_end_array, read_key, items_step, items, members}
use Rattle.json.proofs.Grammar.{items_end, items_more, members_end, members_no_key, members_more}
use Rattle.serde_json.specs.Data.{Data, no_items, item, Members, put}
use Rattle.serde_json.specs.Read.{of_json, of_items, of_members, converted}
use Rattle.json_values.proofs.Conversions.{converted-parse_map, converted-option_map, converted-same, converted-none, behind, refused_value}

-- ---- a value whose conversion failed

refused_then : {B D : Type 0} (f : B → Option D) (add : json.Json → B → B) → ((j : json.Json) → of_json j ≡ None → (b : B) → f (add j b) ≡ None) → (more : Parse B) (o : Option (json.Json × List Token))
    → converted of_json o ≡ None → converted f (option_and_then (λ p. parse_map (add p.0) (more p.1)) o) ≡ None
refused_then f add refused more None e = refl
refused_then f add refused more (Some p) e =
    converted-parse_map f (add p.0) (more p.1) ∙ converted-none (λ b. f (add p.0 b)) (refused p.0 (refused_value of_json p.0 p.1 e)) (more p.1)

-- ---- lists

module _ (p : Parse json.Json) where
  pub items-one : (turns : ℕ) (ts rest : List Token) (d : Data) → 0 < turns → after_end_array ts ≡ None → converted of_json (p ts) ≡ Some (d, rest)
      → converted of_items (items p turns ts) ≡ parse_map (item d) (converted of_items (items p (turns - 1) rest))
  items-one turns ts rest d some going e =
      let j = behind of_json (p ts) d rest e in
      let more = items p (turns - 1) rest in
      ap (converted of_items) (items_more p turns ts rest j.0 some going j.1) ∙ converted-parse_map of_items (json.item j.0) more
      ∙ converted-same (λ js. of_items (json.item j.0 js)) (λ js. option_map (item d) (of_items js)) (λ js. ap (option_and_then (λ x. option_map (item x) (of_items js))) j.2) more
      ∙ converted-option_map (item d) of_items more

  pub items-refused : (turns : ℕ) (ts : List Token) → after_end_array ts ≡ None → converted of_json (p ts) ≡ None → converted of_items (items p turns ts) ≡ None
  items-refused zero ts going e = unfold items in refl
  items-refused (suc turns) ts going e = unfold items in
      ap (λ o. converted of_items (items_step p (items p turns) ts o)) going
      ∙ refused_then of_items json.item (λ j none js. ap (option_and_then (λ x. option_map (item x) (of_items js))) none) (items p turns) (p ts) e

  pub items-none : (turns : ℕ) (ts rest : List Token) → length ts ≤ turns → after_end_array ts ≡ Some rest → converted of_items (items p turns ts) ≡ Some (no_items, rest)
  items-none turns ts rest enough e = ap (converted of_items) (items_end p turns ts rest enough e)

-- ---- objects

module _ (p : Parse json.Json) (old : Members) where
  pub members-one : (turns : ℕ) (k : List ℕ) (ts after rest : List Token) (d : Data) → 0 < turns → read_key ts ≡ Some (Some k, after) → converted of_json (p after) ≡ Some (d, rest)
      → converted (λ ms. of_members ms old) (members p turns ts) ≡ converted (λ ms. of_members ms (put k d old)) (members p (turns - 1) rest)
  members-one turns k ts after rest d some key e =
      let j = behind of_json (p after) d rest e in
      let more = members p (turns - 1) rest in
      ap (converted (λ ms. of_members ms old)) (members_more p turns k ts after rest j.0 some key j.1) ∙ converted-parse_map (λ ms. of_members ms old) (json.member k j.0) more
      ∙ converted-same (λ ms. of_members (json.member k j.0 ms) old) (λ ms. of_members ms (put k d old)) (λ ms. ap (option_and_then (λ x. of_members ms (put k x old))) j.2) more

  pub members-refused : (turns : ℕ) (k : List ℕ) (ts after : List Token) → read_key ts ≡ Some (Some k, after) → converted of_json (p after) ≡ None
      → converted (λ ms. of_members ms old) (members p turns ts) ≡ None
  members-refused zero k ts after key e = unfold members in refl
  members-refused (suc turns) k ts after key e = unfold members in
      rw key (refused_then (λ ms. of_members ms old) (json.member k) (λ j none ms. ap (option_and_then (λ x. of_members ms (put k x old))) none) (members p turns) (p after) e)

  pub members-no_key : (turns : ℕ) (ts : List Token) → read_key ts ≡ None → converted (λ ms. of_members ms old) (members p turns ts) ≡ None
  members-no_key turns ts e = ap (converted (λ ms. of_members ms old)) (members_no_key p turns ts e)

  pub members-none : (turns : ℕ) (ts rest : List Token) → length ts ≤ turns → read_key ts ≡ Some (None, rest) → converted (λ ms. of_members ms old) (members p turns ts) ≡ Some (old, rest)
  members-none turns ts rest enough e = ap (converted (λ ms. of_members ms old)) (members_end p turns ts rest enough e)
