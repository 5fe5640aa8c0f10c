-- The numbers of the items of a list.
use Rattle.std.proofs.Common.{◌≡◌, ℕ, zero, suc, ◌<◌, List, [], ◌∷◌, length, get_or, sym, subst, arith}
use Rattle.std.specs.Global.{Global}
use Rattle.json.specs.Tree.{HasNumbers, ItemsHaveNumbers}
use Rattle.json.specs.Value.{value_view, items_view}
use Rattle.json.specs.declared.value.Value.{Value}

pub HasNumbers-item : (vs : List (Value Global)) (i : ℕ) (x : Value Global) → ItemsHaveNumbers (items_view vs) → i < length vs → x ≡ get_or vs i x → HasNumbers (value_view x)
HasNumbers-item [] i x h w e = absurd (omega arith)
HasNumbers-item (v ∷ vs) zero x h w e = let P : Value Global → Type 0 = λ y. HasNumbers (value_view y) in subst P (sym e) h.0
HasNumbers-item (v ∷ vs) (suc i) x h w e = HasNumbers-item vs i x h.1 (omega arith) e
