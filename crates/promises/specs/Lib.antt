-- What is promised of the calls and of the programs, for every text: the demands and document 02's requests.
pub mod ReadingPromises
pub mod AnswerPromises
pub mod RelationPromises
pub mod KindPromises
pub mod ListPromises
pub mod RowPromises
pub mod LetterPromises
pub mod JoinPromises
pub mod PrefixPromises
pub mod AddedRowPromises
pub mod MeshPromises
pub mod ProgramPromises
pub mod Examples
