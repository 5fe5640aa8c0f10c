-- The invariant of a session: appending, recording and marking keep it.
use Rattle.proof_prelude.proofs.{◌≡◌, ℕ, ◌≤◌, List, [], ◌∷◌, ◌++◌, sym, ap, ◌∙◌, subst, map_push}
use Rattle.couch_base.specs.{WindowValue}
use Rattle.range_front.specs.{FrontValue, IsFront, bounds, end_of, low_water, appended, finished, start-le-low_water, bounds-appended, bounds-finished}
use Rattle.repl_peer.specs.{window_bounds}

-- one more window
pub bounds_grown : (f g : FrontValue) (ws vs us : List WindowValue) (w : WindowValue) (hi : ℕ) → window_bounds ws ≡ bounds f → vs ≡ ws → us ≡ vs ++ w ∷ [] → w.lo ≡ end_of f → hi ≡ w.hi → g ≡ appended f hi
    → window_bounds us ≡ bounds g
bounds_grown f g ws vs us w hi same kept pushed at high is =
    ap window_bounds (pushed ∙ ap (λ l. l ++ w ∷ []) kept)
    ∙ map_push (λ (v : WindowValue). (v.lo, v.hi)) ws w
    ∙ ap (λ bs. bs ++ (w.lo, w.hi) ∷ []) same
    ∙ ap (λ n. bounds f ++ (n, w.hi) ∷ []) at
    ∙ sym (bounds-appended f w.hi)
    ∙ ap (λ n. bounds (appended f n)) (sym high)
    ∙ ap bounds (sym is)

-- a done window
pub bounds_done : (f g : FrontValue) (ws : List WindowValue) (lo hi : ℕ) → window_bounds ws ≡ bounds f → g ≡ finished f lo hi → window_bounds ws ≡ bounds g
bounds_done f g ws lo hi same is = same ∙ sym (bounds-finished f lo hi) ∙ ap bounds (sym is)

-- the recorded sequence is not below the start
pub start_recorded : (f : FrontValue) (n : ℕ) → IsFront f → n ≡ low_water f → f.start ≤ n
start_recorded f n front is = subst (λ k. f.start ≤ k) (sym is) (start-le-low_water f front)
