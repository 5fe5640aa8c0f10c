-- The columns at the end of a text are unique.
use Rattle.proof_prelude.proofs.{◌≡◌, ℕ, List, ◌++◌, sym, ap, subst, ◌∙◌, codes, append_cancel_left, decimal_is_IsNumeral, digits_value}
use Rattle.output_parser.specs.{IsNumber, EndsIn, IsFront, column_text, Table}
use Rattle.output_parser.specs.declared.told.Table.TheVariants as tables
use Rattle.output_parser.proofs.LineLemmas.{named_unique}
use Rattle.output_parser.proofs.TurnLemmas.{OneWay}

pub number_unique : (w : List ℕ) (n m : ℕ) → IsNumber w n → IsNumber w m → n ≡ m
number_unique w n m p q =
    sym (decimal_is_IsNumeral n p.1).1 ∙ (ap (digits_value 10) (sym p.0 ∙ q.0) ∙ (decimal_is_IsNumeral m q.1).1)

pub column_unique : OneWay EndsIn
column_unique column m n a b text p q =
    let u = named_unique text (column_text column) a p.word b q.word p.lacks_blank q.lacks_blank p.form q.form in
    (u.0, number_unique p.word m n p.number (subst (λ w. IsNumber w n) (sym u.1) q.number))

pub front_unique : (table : Table) (a b front : List ℕ) → IsFront table a front → IsFront table b front → a ≡ b
front_unique tables.Compared a b front p q = p.1 ∙ sym q.1
front_unique tables.Info a b front p q =
    let u = named_unique front (codes " uuid") (codes "info " ++ a) p.0 (codes "info " ++ b) q.0 p.2 q.2 p.1 q.1 in
    append_cancel_left (codes "info ") a b u.0
front_unique tables.Session a b front p q = append_cancel_left (codes "session ") a b (sym p ∙ q)
