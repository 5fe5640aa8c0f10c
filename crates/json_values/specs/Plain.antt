-- Defines what the flags of a JSON value claim: that its member names, or its string values, need no escapes.
use Rattle.std.specs.Prelude.{◌≡◌, ℕ, Bool, true, List, length, ⊤, refl}
use Rattle.std.specs.Coded.{Coded, code_by, coded×, coded_bool}
use Rattle.std.specs.List.{prefix_len}
use Rattle.json.specs.Run.{is_plain}
use Rattle.json.specs.Token.{Token}
use Rattle.serde_json.specs.Data.{Data, null, boolean, number, string, array, object, Items, no_items, item, Members, no_members, member}
use Rattle.json_values.specs.declared.plain_texts.PlainTexts.{PlainTexts}

-- If `known` is true, the string s has no quotation mark, no backslash and no control byte.
abbrev pub PlainIf : Bool → List ℕ → Type 0
PlainIf known s = known ≡ true → prefix_len is_plain s ≡ length s

-- Each string at every depth of a JSON value needs no escapes if the flags `known` say so.
abbrev mutual
  pub ArePlain : PlainTexts → Data → Type 0
  ArePlain known null = ⊤
  ArePlain known (boolean b) = ⊤
  ArePlain known (number n) = ⊤
  ArePlain known (string s) = PlainIf known.values s
  ArePlain known (array ds) = AreItemsPlain known ds
  ArePlain known (object ms) = AreMembersPlain known ms

  pub AreItemsPlain : PlainTexts → Items → Type 0
  AreItemsPlain known no_items = ⊤
  AreItemsPlain known (item d ds) = ArePlain known d × AreItemsPlain known ds

  pub AreMembersPlain : PlainTexts → Members → Type 0
  AreMembersPlain known no_members = ⊤
  AreMembersPlain known (member k d ms) = PlainIf known.names k × ArePlain known d × AreMembersPlain known ms

-- The flags change from `old` to `new`, and no flag changes from false to true.
abbrev pub Narrows : PlainTexts → PlainTexts → Type 0
Narrows old new = (new.names ≡ true → old.names ≡ true) × (new.values ≡ true → old.values ≡ true)

-- The string in a token needs no escapes if the flags `known` say so.
abbrev pub IsPlainToken : PlainTexts → Token → Type 0
IsPlainToken known Token.begin_object = ⊤
IsPlainToken known Token.end_object = ⊤
IsPlainToken known Token.begin_array = ⊤
IsPlainToken known Token.end_array = ⊤
IsPlainToken known (Token.key s) = PlainIf known.names s
IsPlainToken known (Token.string s) = PlainIf known.values s
IsPlainToken known (Token.number s) = ⊤
IsPlainToken known (Token.boolean b) = ⊤
IsPlainToken known Token.null = ⊤
IsPlainToken known Token.bad = ⊤

abbrev pub plain_texts_code : Coded PlainTexts
plain_texts_code = code_by (Bool × Bool) (coded× coded_bool coded_bool) (λ p. (p.names, p.values)) (λ p. record { names = p.0; values = p.1 }) (λ _. refl)
