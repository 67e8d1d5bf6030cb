mod OwnLaws
mod UseLaws
mod BackLaws
mod OnceLaws
mod PlainLaws
