use Rattle.std.proofs.Common.{ap}
use Rattle.nut_client.specs.Script.{script}
use Rattle.nut_client.proofs.Parts.{asked_as}
use Rattle.nut_client.proofs.conversation.Conversation.answer.Goals as goal

pub returns-in-Variables : goal.returns-in-Variables
returns-in-Variables g c = asked_as (ap (script c.args.ups) c.in-Variables.is) c.list.ensures

pub returns-in-Object : goal.returns-in-Object
returns-in-Object g c = asked_as (ap (script c.args.ups) c.in-Object.is) c.object.ensures

pub returns-in-Value : goal.returns-in-Value
returns-in-Value g c = asked_as (ap (script c.args.ups) c.in-Value.is) c.value.ensures

pub returns-in-Member : goal.returns-in-Member
returns-in-Member g c = asked_as (ap (script c.args.ups) c.in-Member.is) c.member.ensures

pub returns-in-Names : goal.returns-in-Names
returns-in-Names g c = asked_as (ap (script c.args.ups) c.in-Names.is) c.list-in-Names.ensures

pub returns-in-Descriptions : goal.returns-in-Descriptions
returns-in-Descriptions g c = asked_as (ap (script c.args.ups) c.in-Descriptions.is) c.list-in-Descriptions.ensures

pub returns-in-Clients : goal.returns-in-Clients
returns-in-Clients g c = asked_as (ap (script c.args.ups) c.in-Clients.is) c.list-in-Clients.ensures

pub returns-in-Settings : goal.returns-in-Settings
returns-in-Settings g c = asked_as (ap (script c.args.ups) c.in-Settings.is) c.settings.ensures

pub returns-in-Commands : goal.returns-in-Commands
returns-in-Commands g c = asked_as (ap (script c.args.ups) c.in-Commands.is) c.commands.ensures

pub returns-in-Does : goal.returns-in-Does
returns-in-Does g c = asked_as (ap (script c.args.ups) c.in-Does.is) c.carry_out.ensures
