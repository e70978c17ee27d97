-- What is handed over means: "Where the answer is an enum, there is a definition that gives this paper's number and values for each of its cases."
-- Assumes nothing: these are definitions.
use Rattle.std.specs.Prelude.{Result, Ok, Err}
use Rattle.text.specs.Answers.{Answer, accepted, Values, values}
use Rattle.text.specs.Refusals.{refused_by}
use Rattle.text.specs.declared.refusal.Refused.{Refused}
use Rattle.reader.specs.declared.Counts.{Counts}

-- The paper's answer,
abbrev pub meant : Result Counts Refused → Answer
meant (Ok c) = accepted c.tokens c.records
meant (Err r) = refused_by r

-- and its number, place and numbers of tokens and records.
abbrev pub returned : Result Counts Refused → Values
returned r = values (meant r)
