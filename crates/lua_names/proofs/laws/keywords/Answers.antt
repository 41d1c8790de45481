use Rattle.std.proofs.Common.{ap, ◌∙◌}
use Rattle.lua_names.specs.Keywords.{keyword_of}
use Rattle.lua_names.proofs.KeywordTable.{keyword_sound, keyword_again, keyword_is_word}
use Rattle.lua_names.proofs.laws.keywords.Goals as goal

pub returns-clause-spelled : goal.returns-clause-spelled
returns-clause-spelled c = λ word k. (λ e. keyword_sound word k e, λ e. ap keyword_of e ∙ keyword_again k)

pub returns-clause-words : goal.returns-clause-words
returns-clause-words c = λ k. keyword_is_word k
