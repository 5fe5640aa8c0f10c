use Rattle.proof_prelude.proofs.{◌≡◌, subst, sym, ap, ◌∙◌, option_copied}
use Rattle.couch_base.specs.{DatabaseValue, IsWindow, page, IsWindow-page}
use Rattle.couch_base.proofs.{page_of}
use Rattle.couch_base.proofs.database.Database.page_due.Goals as goal

same : (c : goal.In_ok-rows) → record { life = c.self.inside.life; lo = c.args.since; hi = c.in_ok-rows.hi; rows = c.in_ok-rows.rows.items } ≡ page c.args.self.now c.args.since c.args.goal c.args.limit (option_copied c.args.chosen)
same c =
    let chosen = option_copied c.args.chosen in
    page_of c.self.inside.uuid c.self.inside.life c.self.inside.table c.args.since c.args.goal c.args.limit c.in_ok-rows.hi chosen c.in_ok-rows.rows.items c.in_ok-rows.ensures.rows c.in_ok-rows.ensures.end
    ∙ ap (λ (v : DatabaseValue). page v c.args.since c.args.goal c.args.limit chosen) c.self.view_is

pub new-requires : goal.new-requires
new-requires c = subst IsWindow (sym (same c)) (IsWindow-page c.args.self.now c.args.since c.args.goal c.args.limit (option_copied c.args.chosen) c.law.ensures c.requires.range c.requires.limit)

pub returns : goal.returns
returns c = c.in_ok-window.ensures ∙ same c.before.before.before
