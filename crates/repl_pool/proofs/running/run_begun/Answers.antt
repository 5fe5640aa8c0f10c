use Rattle.proof_prelude.proofs.{rules, ◌∙◌, sym, ap, subst, sum, None, is_some, vec_items, option_copied, false≢true, arith, common_steps}
use Rattle.pool_workers.specs.{MayFill, HaveShown}
use Rattle.pool_workers.proofs.{seats_seated, back_is, shown_start}
use Rattle.repl_pool.proofs.{shown_end, grown_then, held_grown, given_grown, no_workers, nothing_read, ends_free}
use Rattle.repl_pool.proofs.running.run_begun.Goals as goal

pub returns-then-begun-update_seq : goal.returns-then-begun-update_seq
returns-then-begun-update_seq g c =
    let r = c.without_workers.result in
    let shows = HaveShown (option_copied c.args.shows.board) (sum r.fetched.items) None c.args.shows.seats.items in
    record {
      filter = first_of (search rules, grind (arith, common_steps));
      source = first_of (search rules, grind (arith, common_steps));
      grown = c.without_workers.ensures.grown c.args.begun.source.1.db c.args.plan.now.chosen;
      ends = nothing_read g.F.WriteFilter.refuses (MayFill (option_copied c.args.shows.board)) (g.G.Gate.may_stop c.args.gate.now) _ _ c.args.begun.target _ _ _ _ c.requires.none c.without_workers.ensures.fetched c.requires.fresh c.without_workers.ensures.ends;
      back = back_is (option_copied c.args.shows.board) c.args.shows.seats.items _ (seats_seated (option_copied c.args.shows.board) 0 c.args.begun.crew c.args.shows.seats.items c.requires.seats) (ap vec_items (sym c.without_workers.ensures.seats));
      shown =
          ends_free _ _ _ _ _ _ _ r.outcome (shows r.seats.items) c.without_workers.ensures.ends
          (λ _ _. subst shows (ap vec_items (sym c.without_workers.ensures.seats)) (shown_start (option_copied c.args.shows.board) (sum r.fetched.items) c.args.shows.seats.items (ap sum c.without_workers.ensures.fetched)));
    }

pub end-requires : goal.end-requires
end-requires g c =
    let d = c.collect-summed.ensures.target in
    record {
      held =
          held_grown g.F.WriteFilter.refuses c.args.begun.source.1.db c.args.plan.now.chosen c.args.begun.target c.collect-summed.result.target c.args.plan.now.session c.law.ensures.database c.law-2.ensures.peer.sessions
          (given_grown g.F.WriteFilter.refuses c.args.begun.source.1.db g.S.SourceBrand.source c.requires.source c.args.plan.now g.S.SourceBrand.plan c.requires.plan c.args.begun.target c.args.plan.now.session g.T.TargetBrand.given c.requires.given d.0 d.1 d.2 c.collect-summed.result.target d.3).0 c.requires.held;
    }

pub returns-in-Err : goal.returns-in-Err
returns-in-Err g c =
    let r = c.without_workers-in-Err.result in
    record {
      filter = first_of (search rules, grind (arith, common_steps));
      source = first_of (search rules, grind (arith, common_steps));
      grown = c.without_workers-in-Err.ensures.grown c.args.begun.source.1.db c.args.plan.now.chosen;
      ends = no_workers g.F.WriteFilter.refuses (MayFill (option_copied c.args.shows.board)) (g.G.Gate.may_stop c.args.gate.now) _ _ c.args.begun.target _ _ _ _ c.from.result c.from.ensures c.requires.fresh c.without_workers-in-Err.ensures.ends;
      back = back_is (option_copied c.args.shows.board) c.args.shows.seats.items _ (seats_seated (option_copied c.args.shows.board) 0 c.args.begun.crew c.args.shows.seats.items c.requires.seats) (ap vec_items (sym c.without_workers-in-Err.ensures.seats));
      shown = ends_free _ _ _ _ _ _ _ r.outcome (HaveShown (option_copied c.args.shows.board) (sum r.fetched.items) None c.args.shows.seats.items r.seats.items) c.without_workers-in-Err.ensures.ends (λ e _. absurd (false≢true (sym (ap is_some e))));
    }

pub returns-in-Err-open : goal.returns-in-Err-open
returns-in-Err-open g c =
    let r = c.without_workers-in-Err-open.result in
    record {
      filter = first_of (search rules, grind (arith, common_steps));
      source = first_of (search rules, grind (arith, common_steps));
      grown = c.without_workers-in-Err-open.ensures.grown c.args.begun.source.1.db c.args.plan.now.chosen;
      ends = no_workers g.F.WriteFilter.refuses (MayFill (option_copied c.args.shows.board)) (g.G.Gate.may_stop c.args.gate.now) _ _ c.args.begun.target _ _ _ _ c.from-in-Err-open.result c.from-in-Err-open.ensures c.requires.fresh c.without_workers-in-Err-open.ensures.ends;
      back = back_is (option_copied c.args.shows.board) c.args.shows.seats.items _ (seats_seated (option_copied c.args.shows.board) 0 c.args.begun.crew c.args.shows.seats.items c.requires.seats) (ap vec_items (sym c.without_workers-in-Err-open.ensures.seats));
      shown = ends_free _ _ _ _ _ _ _ r.outcome (HaveShown (option_copied c.args.shows.board) (sum r.fetched.items) None c.args.shows.seats.items r.seats.items) c.without_workers-in-Err-open.ensures.ends (λ e _. absurd (false≢true (sym (ap is_some e))));
    }

pub returns : goal.returns
returns g c =
    let d = c.collect-summed.ensures.target in
    let t = c.collect-summed.result in
    let r = c.end.result in
    record {
      filter = first_of (search rules, grind (arith, common_steps));
      source = first_of (search rules, grind (arith, common_steps));
      grown =
          grown_then g.F.WriteFilter.refuses c.args.begun.source.1.db c.args.plan.now.chosen c.args.plan.now.session c.args.begun.target c.collect-summed.result.target c.end.result.target
          (given_grown g.F.WriteFilter.refuses c.args.begun.source.1.db g.S.SourceBrand.source c.requires.source c.args.plan.now g.S.SourceBrand.plan c.requires.plan c.args.begun.target c.args.plan.now.session g.T.TargetBrand.given c.requires.given d.0 d.1 d.2 c.collect-summed.result.target d.3).0
          (c.end.ensures.grown c.args.begun.source.1.db c.args.plan.now.chosen);
      ends =
          record {
            fault = t.fault;
            complete = t.complete;
            before = t.target.1;
            grown = (given_grown g.F.WriteFilter.refuses c.args.begun.source.1.db g.S.SourceBrand.source c.requires.source c.args.plan.now g.S.SourceBrand.plan c.requires.plan c.args.begun.target c.args.plan.now.session g.T.TargetBrand.given c.requires.given d.0 d.1 d.2 t.target d.3).0.1;
            more = d.2;
            paged = (given_grown g.F.WriteFilter.refuses c.args.begun.source.1.db g.S.SourceBrand.source c.requires.source c.args.plan.now g.S.SourceBrand.plan c.requires.plan c.args.begun.target c.args.plan.now.session g.T.TargetBrand.given c.requires.given d.0 d.1 d.2 t.target d.3).2;
            late = c.collect-summed.ensures.halted;
            read =
                λ none whole.
                let k = c.collect-summed.ensures.sum none whole in
                (given_grown g.F.WriteFilter.refuses c.args.begun.source.1.db g.S.SourceBrand.source c.requires.source c.args.plan.now g.S.SourceBrand.plan c.requires.plan c.args.begun.target c.args.plan.now.session g.T.TargetBrand.given c.requires.given k.0 (sum t.fetched.items) k.1 t.target k.2).1
                ∙ ap sum (sym (ap vec_items c.end.ensures.fetched));
            ends = c.end.ensures.ends;
          };
      back = first_of (search rules, grind (arith, common_steps));
      shown =
          ends_free _ _ _ _ _ _ _ r.outcome (HaveShown (option_copied c.args.shows.board) (sum r.fetched.items) None c.args.shows.seats.items r.seats.items) c.end.ensures.ends
          (λ none whole.
          let k = c.collect-summed.ensures.amount none whole in
          shown_end (option_copied c.args.shows.board) c.args.shows.seats.items _ r.seats.items _ k.0 (λ x. x.all.amount) (λ x. x.written.stopped) _ c.with_workers-ended.ensures.shown k.1 k.2
          (k.3 ∙ ap sum (sym (ap vec_items c.end.ensures.fetched))) (ap vec_items (c.end.ensures.seats ∙ c.collect-summed.ensures.seats)));
    }
