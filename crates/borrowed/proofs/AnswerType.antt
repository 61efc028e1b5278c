-- An answer as the machine has it: the Result of a reply and a refusal, its row and the row's laws.
use package.mir.Syntax.{Ty}
use denote.Enum.Declared.{Declared, variants}
use denote.Enum.Enum.{Plainss}
use denote.Enum.Laws.{Laws}
use denote.Param.{layout}
use denote.RattleType.{RattleType}
use Rattle.gear.specs.contracts.answer.Refusal as refusal
use Rattle.gear.proofs.answer.Refusal.TheLaws as refusal'
use Rattle.gear.specs.contracts.answer.Reply as reply
use Rattle.gear.proofs.answer.Reply.TheLaws as reply'
use Rattle.std.specs.contracts.result.Result as result
use Rattle.std.proofs.result.Result.TheLaws as result'

abbrev pub the_type : Declared
the_type = result.the_type reply.the_row refusal.the_row

abbrev pub the_row : RattleType
the_row = result.the_row reply.the_row refusal.the_row

abbrev pub the_laws : Laws the_type
the_laws = result'.the_laws reply.the_row refusal.the_row reply'.the_row_laws refusal'.the_row_laws reply'.the_told refusal'.the_told

abbrev pub the_plain : Plainss (variants the_type)
the_plain = result'.the_plain reply.the_row refusal.the_row reply'.the_row_plain refusal'.the_row_plain

abbrev pub mir : Ty
mir = layout the_row
