use Rattle.vector_report.proofs.Shorter.{shorter}
use Rattle.vector_report.proofs.groups.GroupsIterator.next.Goals as goal

pub returns-clause-goes : goal.returns-clause-goes
returns-clause-goes c =
    let less = shorter c.args.self.now.rest.now c.in-Some.group c.in-Some.after.now c.in-Some.ensures in
    record { on = λ f. (tt, tt, less); keeps = tt; rests = λ f. tt }
