use Rattle.proof_prelude.proofs.{◌≡◌, ◌+◌, ◌-◌, List, [], ◌∷◌, ◌++◌, length, take, drop, Less, Equal, Greater, nat_cmp, sym, ap, subst, ◌∙◌, arith, append_assoc, append-nil, slice_cmp, drop_more, take_more, drop_all, get_or_from_slice_get, take_all, take-append-drop, slice_set}
use Rattle.json_values.specs.{Entry, IsRising, put_entry}
use Rattle.json_values.proofs.{put_front, put_tied, put_last, rising_front, set_between}
use Rattle.json_values.proofs.members.place_of.Goals as goal

pub loop-end-init : goal.loop-end-init
loop-end-init g c =
    let es = c.args.entries.now in
    let n = length es in
    let all : take n es ≡ es = take_all n es (omega arith) in
    let none : drop n es ≡ [] = drop_all n es (omega arith) in (
      omega arith,
      λ name same v. sym (append-nil (put_entry name v es)) ∙ ap (λ xs. put_entry name v xs ++ []) (sym all) ∙ ap (λ ys. put_entry name v (take n es) ++ ys) (sym none),
    )

pub returns-in-Greater : goal.returns-in-Greater
returns-in-Greater g c =
    let n = c.loop-end.end in
    let k = n - 1 in
    let es = c.args.entries.now in
    let e = c.index-entries-end.result in
    let on : k + 1 ≡ n = omega arith in
    let front : take n es ≡ take k es ++ e ∷ [] = ap (λ i. take i es) (sym on) ∙ take_more es k e (omega arith) ∙ ap (λ y. take k es ++ y ∷ []) (sym c.index-entries-end.is) in
    let split : es ≡ (take k es ++ e ∷ []) ++ drop n es = sym (take-append-drop n es) ∙ ap (λ xs. xs ++ drop n es) front in
    let rising = rising_front g.row.T.Denot (take k es ++ e ∷ []) (drop n es) (subst (λ (ys : List (Entry g.row.T.Denot)). IsRising ys) split c.requires) in
    record {
      there = tt;
      absent = (
        omega arith,
        λ name same v.
            let later : slice_cmp nat_cmp name.now e.0.now ≡ Greater = ap (λ k. slice_cmp nat_cmp k e.0.now) same ∙ ap (λ y. slice_cmp nat_cmp c.args.name.now y.0.now) c.index-entries-end.is ∙ sym c.order_of.ensures ∙ c.in-Greater.is in
            c.loop-end.invariant.1 name same v
            ∙ ap (λ xs. xs ++ drop n es) (ap (put_entry name v) front ∙ put_last name v (take k es) e rising later ∙ ap (λ xs. xs ++ (name, v) ∷ []) (sym front))
            ∙ append_assoc (take n es) ((name, v) ∷ []) (drop n es),
      );
    }

pub returns-in-Equal : goal.returns-in-Equal
returns-in-Equal g c =
    let n = c.loop-end.end in
    let k = n - 1 in
    let es = c.args.entries.now in
    let e = c.index-entries-end.result in
    let on : k + 1 ≡ n = omega arith in
    let front : take n es ≡ take k es ++ e ∷ [] = ap (λ i. take i es) (sym on) ∙ take_more es k e (omega arith) ∙ ap (λ y. take k es ++ y ∷ []) (sym c.index-entries-end.is) in
    let split : es ≡ (take k es ++ e ∷ []) ++ drop n es = sym (take-append-drop n es) ∙ ap (λ xs. xs ++ drop n es) front in
    let rising = rising_front g.row.T.Denot (take k es ++ e ∷ []) (drop n es) (subst (λ (ys : List (Entry g.row.T.Denot)). IsRising ys) split c.requires) in
    record {
      there = (
        omega arith,
        λ name same v at is.
            let same_entry : e ≡ at = c.index-entries-end.is ∙ get_or_from_slice_get es k at e is in
            let tied : slice_cmp nat_cmp name.now e.0.now ≡ Equal = ap (λ k. slice_cmp nat_cmp k e.0.now) same ∙ ap (λ y. slice_cmp nat_cmp c.args.name.now y.0.now) c.index-entries-end.is ∙ sym c.order_of.ensures ∙ c.in-Equal.is in
            c.loop-end.invariant.1 name same v
            ∙ ap (λ xs. xs ++ drop n es) (ap (put_entry name v) front ∙ put_tied name v (take k es) e rising tied)
            ∙ append_assoc (take k es) ((e.0, v) ∷ []) (drop n es) ∙ ap (λ i. take k es ++ (e.0, v) ∷ drop i es) (sym on)
            ∙ set_between es k (e.0, v) (omega arith) ∙ ap (λ y. slice_set es k (y.0, v)) same_entry,
      );
      absent = tt;
    }

pub loop-end-preserved : goal.loop-end-preserved
loop-end-preserved g c =
    let n = c.loop-end.end in
    let k = n - 1 in
    let es = c.args.entries.now in
    let e = c.index-entries-end.result in
    let on : k + 1 ≡ n = omega arith in
    let front : take n es ≡ take k es ++ e ∷ [] = ap (λ i. take i es) (sym on) ∙ take_more es k e (omega arith) ∙ ap (λ y. take k es ++ y ∷ []) (sym c.index-entries-end.is) in
    let here : drop k es ≡ e ∷ drop n es = drop_more es k e (omega arith) ∙ ap (λ y. y ∷ drop (k + 1) es) (sym c.index-entries-end.is) ∙ ap (λ i. e ∷ drop i es) on in (
      omega arith,
      λ name same v.
          let before : slice_cmp nat_cmp name.now e.0.now ≡ Less = ap (λ k. slice_cmp nat_cmp k e.0.now) same ∙ ap (λ y. slice_cmp nat_cmp c.args.name.now y.0.now) c.index-entries-end.is ∙ sym c.order_of.ensures ∙ c.in-Less.is in
          c.loop-end.invariant.1 name same v ∙ ap (λ xs. xs ++ drop n es) (ap (put_entry name v) front ∙ put_front name v (take k es) e before)
          ∙ append_assoc (put_entry name v (take k es)) (e ∷ []) (drop n es) ∙ ap (λ ys. put_entry name v (take k es) ++ ys) (sym here),
    )

pub returns : goal.returns
returns g c =
    let es = c.args.entries.now in
    let none : c.loop-end.end ≡ 0 = omega arith in
    record {
      there = tt;
      absent = (
        omega arith,
        λ name same v. c.loop-end.invariant.1 name same v ∙ ap (λ m. put_entry name v (take m es) ++ drop m es) none,
      );
    }
