-- The accepted blocks sell the volume that hourly orders buy more than they sell.
use Rattle.dam_blocks.proofs.Sharing.{volume_balances, money_in_period, money_balances}
use Rattle.dam_blocks.proofs.market.money_balances.Goals as goal

pub returns-clause-volume : goal.returns-clause-volume
returns-clause-volume c = volume_balances

pub returns-clause-money : goal.returns-clause-money
returns-clause-money c problem selection prices executions is =
    money_balances problem.blocks selection 1 prices problem.hours executions is.executions_are

pub returns-clause-money_in_period : goal.returns-clause-money_in_period
returns-clause-money_in_period c = money_in_period
