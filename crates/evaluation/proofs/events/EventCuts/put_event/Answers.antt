-- An accepted tree's event has its entry.
use Rattle.evaluation.proofs.EventsTurn.{cut_asked}
use Rattle.evaluation.proofs.events.EventCuts.put_event.Goals as goal

pub cut_at-requires : goal.cut_at-requires
cut_at-requires c = cut_asked c.args.self.tree_well_formed c.args.self.sheet_accepted c.args.self.same_events c.requires.inside c.in-Event.ensures
