use Rattle.al_app.proofs.AnswerLemmas.{complete}
use Rattle.al_app.proofs.answers.answer_alone.Goals as goal

pub returns-clause-complete : goal.returns-clause-complete
returns-clause-complete g c = complete _ _ _ _ _ _ _ _ _ c.answer_words.ensures.answer c.answer_words.ensures.read
