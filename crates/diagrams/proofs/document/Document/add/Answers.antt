use Rattle.proof_prelude.proofs.{refl, sym, ap, ◌∙◌, map}
use Rattle.diagrams.specs.Drawing.{state_of}
use Rattle.diagrams.proofs.{added}
use Rattle.diagrams.specs.Ancestries.{ancestry_of}
use Rattle.diagrams.specs.Shapes.{apart_of}
use Rattle.diagrams.proofs.document.Document.add.Goals as goal

pub returns-clause-holds : goal.returns-clause-holds
returns-clause-holds c =
    record {
      named = refl;
      read = ap (map state_of) c.in_ok-push.ensures.items
          ∙ added c.args.self.now.leaves.items c.args.leaf c.placed-leaf.result c.placed-leaf.ensures.rev c.placed-leaf.ensures.live c.placed-leaf.ensures.wins;
    }

pub returns-clause-adds : goal.returns-clause-adds
returns-clause-adds c =
    record {
      last = c.placed-leaf.result;
      leaves = c.in_ok-push.ensures.items;
      ancestry = ap (ancestry_of c.add.new.self) c.placed-leaf.ensures.parent ∙ c.in_ok-parent.ensures.path;
      apart = c.placed-leaf.ensures.apart ∙ ap (apart_of c.add.new.self c.args.self.now.leaves.items) (sym c.placed-leaf.ensures.parent);
      oldest = c.placed-leaf.ensures.oldest;
      keeps = c.in_ok-parent.ensures.keeps;
    }
