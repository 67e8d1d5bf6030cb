mod LineLaws
mod InstLaws
mod FunctionLaws
mod WalkLaws
mod ReasonLaws
mod RuleLaws
