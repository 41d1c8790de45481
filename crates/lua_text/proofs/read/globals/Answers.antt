use Rattle.lua_text.specs.Outcomes.{evaluated}
use Rattle.lua_text.proofs.Integers.{chunk_integers}
use Rattle.lua_text.proofs.Names.{globals_names}
use Rattle.lua_text.proofs.One.{one_outcome, unspelled_outcome, underived_outcome, faulty_outcome}
use Rattle.lua_text.proofs.read.globals.Goals as goal

pub returns-in-Err-clause-read : goal.returns-in-Err-clause-read
returns-in-Err-clause-read c =
    unspelled_outcome c.args.text.now c.in-Err.fault c.in_ok-unspelled-in-Err.field-0
    c.in-Err.ensures.fault c.in_ok-unspelled-in-Err.ensures

pub returns-in-Err-clause-only : goal.returns-in-Err-clause-only
returns-in-Err-clause-only c = λ other is. one_outcome c.args.text.now _ other (returns-in-Err-clause-read c) is

pub returns-in-Err-chunk-clause-read : goal.returns-in-Err-chunk-clause-read
returns-in-Err-chunk-clause-read c =
    underived_outcome c.args.text.now c.in-Ok.found c.in-Err-chunk.fault c.in_ok-underived-in-Err-chunk.field-0
    c.in-Ok.ensures.ok c.in-Err-chunk.ensures.fault c.in_ok-underived-in-Err-chunk.ensures

pub returns-in-Err-chunk-clause-only : goal.returns-in-Err-chunk-clause-only
returns-in-Err-chunk-clause-only c = λ other is. one_outcome c.args.text.now _ other (returns-in-Err-chunk-clause-read c) is

pub evaluate-requires : goal.evaluate-requires
evaluate-requires c = record {
  integers = chunk_integers c.in-Ok.found c.in-Ok-chunk.tree c.in-Ok.ensures.promised c.in-Ok-chunk.ensures.ok.0;
}

pub returns-in-Ok-evaluate-clause-read : goal.returns-in-Ok-evaluate-clause-read
returns-in-Ok-evaluate-clause-read c =
    evaluated c.in-Ok.found c.in-Ok-chunk.tree c.in-Ok-evaluate.globals
    c.in-Ok.ensures.ok c.in-Ok-chunk.ensures.ok c.in-Ok-evaluate.ensures.globals

pub returns-in-Ok-evaluate-clause-only : goal.returns-in-Ok-evaluate-clause-only
returns-in-Ok-evaluate-clause-only c = λ other is. one_outcome c.args.text.now _ other (returns-in-Ok-evaluate-clause-read c) is

pub returns-in-Ok-evaluate-clause-named : goal.returns-in-Ok-evaluate-clause-named
returns-in-Ok-evaluate-clause-named c =
    globals_names c.in-Ok.found c.in-Ok-chunk.tree c.in-Ok-evaluate.globals
    c.in-Ok.ensures.promised c.in-Ok-chunk.ensures.ok.0 c.in-Ok-evaluate.ensures.globals

pub returns-clause-read : goal.returns-clause-read
returns-clause-read c =
    faulty_outcome c.args.text.now c.in-Ok.found c.in-Ok-chunk.tree c.in-Err-evaluate.fault c.in_ok-faulty-in-Err-evaluate.field-0
    c.in-Ok.ensures.ok c.in-Ok-chunk.ensures.ok c.in-Err-evaluate.ensures.globals c.in_ok-faulty-in-Err-evaluate.ensures

pub returns-clause-only : goal.returns-clause-only
returns-clause-only c = λ other is. one_outcome c.args.text.now _ other (returns-clause-read c) is
