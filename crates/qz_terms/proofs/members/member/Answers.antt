use Rattle.qz_control.proofs.Members.{member_ready}
use Rattle.qz_terms.proofs.members.member.Goals as goal

pub returns-clause-ready : goal.returns-clause-ready
returns-clause-ready c =
    member_ready c.args.parts.now c.args.index c.index-parts-index.result c.requires.within c.index-parts-index.is c.args.owner.now c.requires.ready
